-- The first name among tokens.
use Rattle.std.proofs.Common.{◌≡◌, ℕ, suc, ◌≤◌, true, List, [], ◌∷◌, length, take, drop, IsTrue, Some, None, Option, MatchOption, IfSome, slice_get, sym, ap, ◌∙◌, subst, arith}
use Rattle.std.specs.List.{FoldsTo}
use Rattle.std.specs.Iterator.{Yields, YieldsThen, FindsMapped}
use Rattle.std.specs.Iterator.Runs.{Run, SomeRun, YieldsRun, CallKeepsClosure, AllItems, AllItemsGive}
use denote.Param.Members.{Mut, Called}
use Rattle.grammar.specs.Scan.{names}
use Rattle.names.specs.declared.name.Name.{Name}
use Rattle.text.specs.declared.cursor.Cursor.{Cursor}
use Rattle.text.specs.declared.cursor.Token.{Token}
use Rattle.text.specs.declared.cursor.Token.TheVariants as token
use Rattle.text.specs.Tokens.{names_left, name_in, Gives, GivesName}

-- where it is found, or what is known where it is not
abbrev Found : Cursor → Option Name → Cursor → Type 0
Found c None d = (names_left c ≡ names_left d) × (d.text ≡ c.text)
Found c (Some n) d = GivesName c (Some n) d

-- a sign before it
behind_sign : (c j d : Cursor) (s : ℕ) (r : Option Name) → Gives c (Some (token.Sign s)) j → Found j r d → Found c r d
behind_sign c j d s None g h = (ap names g.0 ∙ h.0, h.1 ∙ g.1.0)
behind_sign c j d s (Some n) g h = (ap names g.0 ∙ h.0, (h.1.0 ∙ g.1.0, omega (arith, h.1.1, g.1.1), subst (λ (t : _). d.at ≤ length t.now) g.1.0 h.1.2), subst (λ (t : _). take (length n.bytes.now) (drop n.at t.now) ≡ n.bytes.now) g.1.0 h.2)

module _ {F : Type 0} (g : Mut F (Token × Unit {0}) (Option Name)) (called : (p : F) (x : Token) (r : Option Name) (q : F) → Called g p (x, tt) r q → r ≡ name_in x) where
  first : (c d : Cursor) (xs : List Token) (o : Option Token) (f f' : F) (r : Option Name) → YieldsThen Gives c xs o d → FoldsTo (λ p x q. Called g p (x, tt) None q) f xs f' → MatchOption o (r ≡ None) (λ x. (h : F) × Called g f' (x, tt) r h) → Found c r d
  first c d [] None f f' r y s m =
      subst (λ (a : Option Name). Found c a d) (sym m) (subst (λ (t : Cursor). Found t None d) (sym y.1) (ap names_left (sym y.2.1), ap (λ (t : Cursor). t.text) y.2.1))
  first c d [] (Some (token.Sign k)) f f' r y s m =
      subst (λ (a : Option Name). Found c a d) (sym (called f' (token.Sign k) r m.0 m.1)) (subst (λ (t : Cursor). Found t None d) (sym y.1) (ap names y.2.0, y.2.1.0))
  first c d [] (Some (token.Name n)) f f' r y s m =
      subst (λ (a : Option Name). Found c a d) (sym (called f' (token.Name n) r m.0 m.1)) (subst (λ (t : Cursor). Found t (Some n) d) (sym y.1) (ap names y.2.0, y.2.1, y.2.2))
  first c d (token.Sign k ∷ xs) o f f' r y s m = behind_sign c y.1.0 d k r y.1.1 (first y.1.0 d xs o s.0 f' r (y.0, y.1.2, y.2) s.2 m)
  first c d (token.Name n ∷ xs) o f f' r y s m = let e = called f (token.Name n) None s.0 s.1 in absurd cc

-- where there is none, no name is left
no_name : (c t u : Cursor) (xs : List Token) → Yields Gives c xs t → Gives t None u → ((k : ℕ) → IfSome (slice_get xs k) (λ x. name_in x ≡ None)) → names_left c ≡ []
no_name c t u [] y e h = ap names_left y ∙ ap names e.0
no_name c t u (token.Sign k ∷ xs) y e h = ap names y.1.0 ∙ no_name y.0 t u xs y.2 e (λ i. h (suc i))
no_name c t u (token.Name n ∷ xs) y e h = let z : Some n ≡ None = h 0 in absurd cc

none_left : (p : Run Gives) → p.whole ≡ true → AllItems p (λ x. name_in x ≡ None) → names_left p.from ≡ []
unfolding YieldsRun
none_left p w h =
    let t = p.gave.0 in
    no_name p.from t.0 (t.2 w).0 p.items t.1 (t.2 w).1 (λ k. subst (λ (o : Option Token). IfSome o (λ x. name_in x ≡ None)) (p.gave.1 k) (h k))

told : (c d : Cursor) (r : Option Name) (p : Run Gives) (Y : Name → Type 0) → p.from ≡ c → Found c r d → MatchOption r (IsTrue p.whole × AllItems p (λ x. name_in x ≡ None)) Y → GivesName c r d
told c d None p Y e f m = let none = ap names_left (sym e) ∙ none_left p m.0 m.1 in (none, sym f.0 ∙ none, f.1)
told c d (Some n) p Y e f m = f

module _ {F : Type 0} (g : Mut F (Token × Unit {0}) (Option Name)) (f : F) (keeps : CallKeepsClosure g f) (called : (p : F) (x : Token) (r : Option Name) (q : F) → Called g p (x, tt) r q → r ≡ name_in x) where
  all_signs : (p : Run Gives) → AllItemsGive p g f None → AllItems p (λ x. name_in x ≡ None)
  all_signs p h k = at (p.at k) (h keeps k)
    where
      at : (o : Option Token) → IfSome o (λ x. Called g f (x, tt) None f) → IfSome o (λ x. name_in x ≡ None)
      at None h = h
      at (Some x) h = sym (called f x None f h)

  -- what `find_map` says
  pub name_found : (c d : Cursor) (r : Option Name) (Y : Run Gives → Name → Type 0) → FindsMapped Gives g c f r d → SomeRun Gives c (λ p. MatchOption r (IsTrue p.whole × AllItemsGive p g f None) (Y p)) → GivesName c r d
  name_found c d r Y h m =
      told c d r m.0 (Y m.0) m.1 (first g called c d h.0 h.1 f h.2 r h.3 h.4 h.5) (signs r m.2)
    where
      signs : (r : Option Name) → MatchOption r (IsTrue m.0.whole × AllItemsGive m.0 g f None) (Y m.0) → MatchOption r (IsTrue m.0.whole × AllItems m.0 (λ x. name_in x ≡ None)) (Y m.0)
      signs None n = (n.0, all_signs m.0 n.1)
      signs (Some x) n = n
