-- The chains of the table of names.
use Rattle.std.proofs.Common.{◌≡◌, ℕ, zero, suc, ◌+◌, ◌-◌, ◌*◌, ◌/◌, ◌%◌, ◌^◌, ◌<◌, ◌≤◌, Bool, true, false, cond, eqb, ◌≢◌, List, [], ◌∷◌, ◌++◌, length, get_or, drop, set, replicate, sym, refl, ap, ◌∙◌, ⊎_elim, add-one, arith}
use Rattle.std.proofs.lemmas.List.{drop_more, drop_all, get_or_append_left, get_or_push, get_or-set_same, get_or-set_other, get_or-replicate}
use Rattle.std.proofs.lemmas.Bool.{cond-true, cond-false, eqb-true, eq-eqb, ne_eqb, both_ways, cases_lt}
use Rattle.names.specs.Buckets.{hash_from, bucket, last_in}

pub hash_more : (name : List ℕ) (h i : ℕ) → i < length name → hash_from ((h * 257 + get_or name i 0) % 2 ^ 32) (drop (i + 1) name) ≡ hash_from h (drop i name)
hash_more name h i l = ap (hash_from h) (sym (drop_more name i 0 l))

pub hash_all : (name : List ℕ) (h i : ℕ) → length name ≤ i → hash_from h (drop i name) ≡ hash_from 0 name → h * 2654435769 % 2 ^ 32 / 2 ^ 20 ≡ bucket name
unfolding bucket
hash_all name h i l e = ap (λ (k : ℕ). k * 2654435769 % 2 ^ 32 / 2 ^ 20) (sym (ap (hash_from h) (drop_all i name l)) ∙ e)

module _ (ns : List (List ℕ)) (b : ℕ) where
  in_bucket : ℕ → Bool
  in_bucket k = eqb (bucket (get_or ns k [])) b

  pub last_le : (k : ℕ) → last_in ns b k ≤ k
  last_le zero = omega arith
  last_le (suc k) = at (eqb (bucket (get_or ns k [])) b) (last_le k)
    where
      at : (t : Bool) → last_in ns b k ≤ k → cond t (suc k) (last_in ns b k) ≤ suc k
      at true h = omega arith
      at false h = omega arith

  -- no name between the last one and k is in the bucket
  pub last_none : (k j : ℕ) → last_in ns b k ≤ j → j < k → bucket (get_or ns j []) ≡ b → ⊥
  last_none zero j l h e = absurd (omega (arith, h))
  last_none (suc k) j l h e = at (eqb (bucket (get_or ns k [])) b) refl l (λ m g. last_none k j m g e)
    where
      at : (t : Bool) → eqb (bucket (get_or ns k [])) b ≡ t → cond t (suc k) (last_in ns b k) ≤ j → (last_in ns b k ≤ j → j < k → ⊥) → ⊥
      at true q m rec = absurd (omega (arith, m, h))
      at false q m rec =
          ⊎_elim (rec m) (λ g. let s : j ≡ k = omega arith in both_ways (eqb (bucket (get_or ns k [])) b) q (eq-eqb (bucket (get_or ns k [])) b (sym (ap (λ (i : ℕ). bucket (get_or ns i [])) s) ∙ e))) (cases_lt j k)

  -- the last one is
  pub last_is_inside : (k : ℕ) → 0 < last_in ns b k → bucket (get_or ns (last_in ns b k - 1) []) ≡ b
  last_is_inside zero h = absurd (omega (arith, h))
  last_is_inside (suc k) h = at (eqb (bucket (get_or ns k [])) b) refl h (last_is_inside k)
    where
      at : (t : Bool) → eqb (bucket (get_or ns k [])) b ≡ t → 0 < cond t (suc k) (last_in ns b k) → (0 < last_in ns b k → bucket (get_or ns (last_in ns b k - 1) []) ≡ b) → bucket (get_or ns (cond t (suc k) (last_in ns b k) - 1) []) ≡ b
      at true q m rec = let s : suc k - 1 ≡ k = omega arith in ap (λ (i : ℕ). bucket (get_or ns i [])) s ∙ eqb-true (bucket (get_or ns k [])) b q
      at false q m rec = rec m

-- one name more behind them changes nothing below it
pub last_push : (ns : List (List ℕ)) (n : List ℕ) (b k : ℕ) → k ≤ length ns → last_in (ns ++ n ∷ []) b k ≡ last_in ns b k
last_push ns n b zero h = refl
last_push ns n b (suc k) h =
    ap (λ (m : List ℕ). cond (eqb (bucket m) b) (suc k) (last_in (ns ++ n ∷ []) b k)) (get_or_append_left ns (n ∷ []) [] k (omega arith)) ∙ ap (λ (r : ℕ). cond (eqb (bucket (get_or ns k [])) b) (suc k) r) (last_push ns n b k (omega arith))

-- A walk down the chain of n's bucket that has come to `at`: the name before it is in the bucket, and from it on all
-- are other names.
pub record Walked (ns : List (List ℕ)) (n : List ℕ) (at : ℕ) : Type 0 where
  pub below : at ≤ length ns
  pub inside : 0 < at → bucket (get_or ns (at - 1) []) ≡ bucket n
  pub others : (j : ℕ) → at ≤ j → j < length ns → get_or ns j [] ≡ n → ⊥

-- it starts at the bucket's newest name
pub walk_starts : (ns : List (List ℕ)) (n : List ℕ) (b at : ℕ) → b ≡ bucket n → at ≡ last_in ns b (length ns) → Walked ns n at
walk_starts ns n b at s e =
    record {
      below = omega (arith, last_le ns b (length ns));
      inside = λ h. ap (λ (k : ℕ). bucket (get_or ns (k - 1) [])) e ∙ last_is_inside ns b (length ns) (omega arith) ∙ s;
      others = λ j l h f. last_none ns b (length ns) j (omega arith) h (ap bucket f ∙ sym s);
    }

-- and goes on to the next older one
pub walk_on : (ns : List (List ℕ)) (n : List ℕ) (i at next : ℕ) → 0 < at → i ≡ at - 1 → Walked ns n at → (get_or ns i [] ≡ n → ⊥) → next ≡ last_in ns (bucket (get_or ns i [])) i → Walked ns n next
walk_on ns n i at next some e w other link =
    let b = bucket (get_or ns i []) in
    let same : b ≡ bucket n = ap (λ (k : ℕ). bucket (get_or ns k [])) e ∙ w.inside some in
    record {
      below = omega (arith, last_le ns b i, w.below);
      inside = λ h. ap (λ (k : ℕ). bucket (get_or ns (k - 1) [])) link ∙ last_is_inside ns b i (omega arith) ∙ same;
      others = λ j l h f. ⊎_elim (λ g. last_none ns b i j (omega arith) g (ap bucket f ∙ sym same)) (λ g. ⊎_elim (λ k. w.others j (omega arith) h f) (λ k. let s : j ≡ i = omega arith in other (ap (λ (x : ℕ). get_or ns x []) (sym s) ∙ f)) (cases_lt i j)) (cases_lt j i);
    }

-- one name more: its bucket's newest is the new one
last_one_more : (ns : List (List ℕ)) (n : List ℕ) (c k : ℕ) → length ns ≡ k → last_in (ns ++ n ∷ []) c (suc k) ≡ cond (eqb (bucket n) c) (suc k) (last_in ns c k)
last_one_more ns n c k e =
    ap (λ (m : List ℕ). cond (eqb (bucket m) c) (suc k) (last_in (ns ++ n ∷ []) c k)) (get_or_push ns n [] k e) ∙ ap (λ (r : ℕ). cond (eqb (bucket n) c) (suc k) r) (last_push ns n c k (omega arith))

pub heads_push : (ns ms : List (List ℕ)) (n newest : List ℕ) (b k m : ℕ) → ms ≡ ns ++ n ∷ [] → m ≡ k + 1 → length ns ≡ k → b ≡ bucket n → b < length newest → ((c : ℕ) → c < 4096 → get_or newest c 0 ≡ last_in ns c k) → (c : ℕ) → c < 4096 → get_or (set newest b (k + 1)) c 0 ≡ last_in ms c m
heads_push ns ms n newest b k m e f l s h heads c g =
    let q : m ≡ suc k = f ∙ add-one k in
    let grown : last_in ms c m ≡ cond (eqb (bucket n) c) (suc k) (last_in ns c k) = ap (λ (xs : List (List ℕ)). last_in xs c m) e ∙ ap (last_in (ns ++ n ∷ []) c) q ∙ last_one_more ns n c k l in
    ⊎_elim (λ i. let o : c ≢ b = λ y. omega (arith, i, y) in other o grown) (λ i. ⊎_elim (λ j. let o : c ≢ b = λ y. omega (arith, j, y) in other o grown) (λ j. same (omega (arith, i, j)) grown) (cases_lt b c)) (cases_lt c b)
  where
    other : c ≢ b → last_in ms c m ≡ cond (eqb (bucket n) c) (suc k) (last_in ns c k) → get_or (set newest b (k + 1)) c 0 ≡ last_in ms c m
    other o grown =
        get_or-set_other newest b c (k + 1) 0 o ∙ heads c g ∙ sym (grown ∙ cond-false (eqb (bucket n) c) (suc k) (last_in ns c k) (ne_eqb (bucket n) c (λ y. o (sym y ∙ sym s))))

    same : c ≡ b → last_in ms c m ≡ cond (eqb (bucket n) c) (suc k) (last_in ns c k) → get_or (set newest b (k + 1)) c 0 ≡ last_in ms c m
    same o grown =
        ap (λ (x : ℕ). get_or (set newest b (k + 1)) x 0) o ∙ get_or-set_same newest b (k + 1) 0 h ∙ add-one k ∙ sym (grown ∙ cond-true (eqb (bucket n) c) (suc k) (last_in ns c k) (eq-eqb (bucket n) c (sym s ∙ sym o)))

pub chains_push : (ns ms : List (List ℕ)) (n older olds : List ℕ) (x k m : ℕ) → ms ≡ ns ++ n ∷ [] → olds ≡ older ++ x ∷ [] → m ≡ k + 1 → length ns ≡ k → length older ≡ k → x ≡ last_in ns (bucket n) k → ((i : ℕ) → i < k → get_or older i 0 ≡ last_in ns (bucket (get_or ns i [])) i) → (i : ℕ) → i < m → get_or olds i 0 ≡ last_in ms (bucket (get_or ms i [])) i
chains_push ns ms n older olds x k m e d f l p link chains i g =
    ap (λ (os : List ℕ). get_or os i 0) d ∙ ⊎_elim before last (cases_lt i k) ∙ sym (ap (λ (xs : List (List ℕ)). last_in xs (bucket (get_or xs i [])) i) e)
  where
    before : i < k → get_or (older ++ x ∷ []) i 0 ≡ last_in (ns ++ n ∷ []) (bucket (get_or (ns ++ n ∷ []) i [])) i
    before h =
        get_or_append_left older (x ∷ []) 0 i (omega arith) ∙ chains i h ∙ sym (ap (λ (y : List ℕ). last_in (ns ++ n ∷ []) (bucket y) i) (get_or_append_left ns (n ∷ []) [] i (omega arith)) ∙ last_push ns n (bucket (get_or ns i [])) i (omega arith))

    last : k ≤ i → get_or (older ++ x ∷ []) i 0 ≡ last_in (ns ++ n ∷ []) (bucket (get_or (ns ++ n ∷ []) i [])) i
    last h =
        let s : k ≡ i = omega arith in
        get_or_push older x 0 i (p ∙ s) ∙ link ∙ ap (last_in ns (bucket n)) s ∙ sym (ap (λ (y : List ℕ). last_in (ns ++ n ∷ []) (bucket y) i) (get_or_push ns n [] i (l ∙ s)) ∙ last_push ns n (bucket n) i (omega arith))

-- no name yet
pub heads_none : (ns : List (List ℕ)) (newest : List ℕ) (k : ℕ) → k ≡ 0 → newest ≡ replicate 4096 0 → (b : ℕ) → b < 4096 → get_or newest b 0 ≡ last_in ns b k
heads_none ns newest k e f b h =
    ap (λ (xs : List ℕ). get_or xs b 0) f ∙ get_or-replicate 4096 b 0 0 h ∙ sym (ap (last_in ns b) e)
