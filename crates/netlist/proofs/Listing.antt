-- The readers of each net, net by net.
use Rattle.std.proofs.Common.{◌≡◌, ℕ, suc, ◌+◌, ◌<◌, ◌≤◌, Bool, true, false, eqb, cond, List, [], ◌∷◌, ◌++◌, map, length, get_or, set, take, vec_items, Vec, sym, refl, ap, ◌∙◌, subst, ⊎_elim, add-one, arith}
use Rattle.std.proofs.lemmas.List.{append-nil, append_assoc, length-map, length-set, map-set, get_or-set_same, get_or-set_other, take_more}
use Rattle.std.proofs.lemmas.Bool.{cases_eq}
use Rattle.std.specs.List.{ends_with}
use Rattle.std.specs.declared.alloc.Global.{Global}
use Rattle.circuit.specs.Circuit.{Cell, operands_at}
use Rattle.circuit.specs.Listed.{listed_in}
use Rattle.circuit.specs.Readers.{readers_below, readers_of}
use Rattle.circuit.proofs.Readers.{listed_here, listed_elsewhere, ends_tell, at-listed, read_below}
use Rattle.netlist.specs.Readers.{lists_in, ReadSoFar, ListsReaders}

module _ (cells : List Cell) (n : ℕ) (read : List ℕ) (vs : List (Vec ℕ Global)) (so_far : ReadSoFar cells n read vs) (k : ℕ) (inside : k < length cells) where
  -- the list of net k ends in n just where n is known to read it
  ends : (own : List ℕ) → own ≡ get_or (lists_in vs) k [] → ends_with eqb own (n ∷ []) ≡ listed_in k read
  ends own e =
      ap (λ (xs : List ℕ). ends_with eqb xs (n ∷ [])) (e ∙ so_far.own k inside) ∙ ends_tell (readers_below cells k n) n (listed_in k read) (λ p l. (read_below cells k n _ (at-listed _ (readers_below cells k n) p l refl)).0)

  -- net n reads net k, too
  next : (ws : List (Vec ℕ Global)) → length ws ≡ length vs → ((j : ℕ) → (k ≡ j → ⊥) → get_or (lists_in ws) j [] ≡ get_or (lists_in vs) j []) → get_or (lists_in ws) k [] ≡ readers_below cells k n ++ n ∷ [] → ReadSoFar cells n (read ++ k ∷ []) ws
  next ws size others own =
      record {
        size = size ∙ so_far.size;
        own = λ j l. ⊎_elim (λ e.
            let P : ℕ → Type 0 = λ m. get_or (lists_in ws) m [] ≡ readers_below cells m n ++ cond (listed_in m (read ++ k ∷ [])) (n ∷ []) [] in
            subst P e (own ∙ ap (λ (t : Bool). readers_below cells k n ++ cond t (n ∷ []) []) (sym (listed_here k read)))) (λ apart.
            others j apart ∙ so_far.own j l ∙ ap (λ (t : Bool). readers_below cells j n ++ cond t (n ∷ []) []) (sym (listed_elsewhere j k read apart))) (cases_eq k j);
      }

  -- the list of net k as it stands, where it ends in n
  pub next_kept : (own : List ℕ) → own ≡ get_or (lists_in vs) k [] → ends_with eqb own (n ∷ []) ≡ true → (ws : List (Vec ℕ Global)) → length ws ≡ length vs → lists_in ws ≡ lists_in vs → ReadSoFar cells n (read ++ k ∷ []) ws
  next_kept own e end ws size same =
      next ws size (λ j apart. ap (λ (ls : List (List ℕ)). get_or ls j []) same) (
      ap (λ (ls : List (List ℕ)). get_or ls k []) same ∙ so_far.own k inside ∙ ap (λ (t : Bool). readers_below cells k n ++ cond t (n ∷ []) []) (sym (ends own e) ∙ end))

  -- the list of net k with n behind it, where it does not
  pub next_pushed : (own : List ℕ) → own ≡ get_or (lists_in vs) k [] → ends_with eqb own (n ∷ []) ≡ false → (w : Vec ℕ Global) → vec_items w ≡ own ++ n ∷ [] → ReadSoFar cells n (read ++ k ∷ []) (set vs k w)
  next_pushed own e ends_not w pushed =
      let at : k < length (lists_in vs) = omega (arith, inside, so_far.size, length-map vs (λ (v : Vec ℕ Global). vec_items v)) in
      let lists = map-set (λ (v : Vec ℕ Global). vec_items v) vs k w in
      let was : own ≡ readers_below cells k n = e ∙ so_far.own k inside ∙ ap (λ (t : Bool). readers_below cells k n ++ cond t (n ∷ []) []) (sym (ends own e) ∙ ends_not) ∙ append-nil (readers_below cells k n) in
      next (set vs k w) (length-set vs k w) (λ j apart. ap (λ (ls : List (List ℕ)). get_or ls j []) lists ∙ get_or-set_other (lists_in vs) k j (vec_items w) [] (λ q. apart (sym q))) (
      ap (λ (ls : List (List ℕ)). get_or ls k []) lists ∙ get_or-set_same (lists_in vs) k (vec_items w) [] at ∙ pushed ∙ ap (λ (xs : List ℕ). xs ++ n ∷ []) was)

-- all that net n reads is known
pub all_read : (cells : List Cell) (n : ℕ) (vs : List (Vec ℕ Global)) → ReadSoFar cells n (operands_at cells n) vs → ReadSoFar cells (n + 1) [] vs
all_read cells n vs h =
    record { size = h.size; own = λ j l. rw add-one (h.own j l ∙ sym (append-nil (readers_below cells j (suc n)))) }

pub all_listed : (cells : List Cell) (n : ℕ) (vs : List (Vec ℕ Global)) → n ≡ length cells → ReadSoFar cells n [] vs → ListsReaders cells vs
all_listed cells n vs e h =
    (h.size, λ j l. h.own j l ∙ append-nil (readers_below cells j n) ∙ ap (readers_below cells j) e)
