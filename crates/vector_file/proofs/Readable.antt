-- Files can be read back: the bytes of a number say where it ends.
use Rattle.std.proofs.Common.{◌≡◌, ℕ, zero, suc, ◌+◌, ◌/◌, ◌%◌, ◌<◌, ◌≤◌, List, [], ◌∷◌, ◌++◌, length, get_or, drop, sym, refl, ap, ◌∙◌, ⊎_elim, arith, length-append}
use Rattle.std.specs.List.{flat_map}
use Rattle.std.proofs.lemmas.Bool.{cases_lt}
use Rattle.vector_file.specs.declared.entry.Entry.{Entry}
use Rattle.vector_file.specs.Numbers.{number_bytes, numbers_bytes}
use Rattle.vector_file.specs.Files.{entry_numbers_of, file_numbers, file_bytes, EqualFilesEqualDecks}
use Rattle.vector_file.proofs.Groups.{bytes_small, bytes_more, some_byte}

first : {x y : ℕ} {xs ys : List ℕ} → x ∷ xs ≡ y ∷ ys → x ≡ y
first e = ap (λ zs. get_or zs 0 0) e

others : {x y : ℕ} {xs ys : List ℕ} → x ∷ xs ≡ y ∷ ys → xs ≡ ys
others e = ap (drop 1) e

-- the equation with the bytes of both numbers in the form at hand
opened : (a b : ℕ) (cs ds xs ys : List ℕ) → number_bytes a ≡ cs → number_bytes b ≡ ds → number_bytes a ++ xs ≡ number_bytes b ++ ys → cs ++ xs ≡ ds ++ ys
opened a b cs ds xs ys p q e = sym (ap (λ zs. zs ++ xs) p) ∙ e ∙ ap (λ zs. zs ++ ys) q

module _ (a b : ℕ) (xs ys : List ℕ) (e : number_bytes a ++ xs ≡ number_bytes b ++ ys) where
  both_small : a < 128 → b < 128 → (a ≡ b) × (xs ≡ ys)
  both_small s t = let o = opened a b (a ∷ []) (b ∷ []) xs ys (bytes_small a s) (bytes_small b t) e in (first o, others o)

  small_large : a < 128 → 128 ≤ b → (a ≡ b) × (xs ≡ ys)
  small_large s l =
      let o = first (opened a b (a ∷ []) ((b % 128 + 128) ∷ number_bytes (b / 128)) xs ys (bytes_small a s) (bytes_more b l) e) in
      let z : ◌≡◌ {A = ℕ} 0 1 = omega arith in (cc, cc)

  large_small : 128 ≤ a → b < 128 → (a ≡ b) × (xs ≡ ys)
  large_small l t =
      let o = first (opened a b ((a % 128 + 128) ∷ number_bytes (a / 128)) (b ∷ []) xs ys (bytes_more a l) (bytes_small b t) e) in
      let z : ◌≡◌ {A = ℕ} 0 1 = omega arith in (cc, cc)

  both_large : 128 ≤ a → 128 ≤ b → (number_bytes (a / 128) ++ xs ≡ number_bytes (b / 128) ++ ys → (a / 128 ≡ b / 128) × (xs ≡ ys)) → (a ≡ b) × (xs ≡ ys)
  both_large l m higher =
      let o = opened a b ((a % 128 + 128) ∷ number_bytes (a / 128)) ((b % 128 + 128) ∷ number_bytes (b / 128)) xs ys (bytes_more a l) (bytes_more b m) e in
      let h = higher (others o) in
      (omega (arith, first o, h.0), h.1)

-- no number's bytes begin another's
same_number : (k a b : ℕ) (xs ys : List ℕ) → a ≤ k → number_bytes a ++ xs ≡ number_bytes b ++ ys → (a ≡ b) × (xs ≡ ys)
same_number zero a b xs ys h e = ⊎_elim (both_small a b xs ys e (omega arith)) (small_large a b xs ys e (omega arith)) (cases_lt b 128)
same_number (suc k) a b xs ys h e =
    ⊎_elim
    (λ s. ⊎_elim (both_small a b xs ys e s) (small_large a b xs ys e s) (cases_lt b 128))
    (λ l. ⊎_elim (large_small a b xs ys e l) (λ m. both_large a b xs ys e l m (same_number k (a / 128) (b / 128) xs ys (omega arith))) (cases_lt b 128))
    (cases_lt a 128)

same_numbers : (ms ns : List ℕ) → numbers_bytes ms ≡ numbers_bytes ns → ms ≡ ns
same_numbers [] [] e = refl
same_numbers [] (n ∷ ns) e =
    let z : ◌≡◌ {A = ℕ} 0 1 = omega (arith, ap length e, length-append (number_bytes n) (numbers_bytes ns), some_byte n) in cc
same_numbers (m ∷ ms) [] e =
    let z : ◌≡◌ {A = ℕ} 0 1 = omega (arith, ap length e, length-append (number_bytes m) (numbers_bytes ms), some_byte m) in cc
same_numbers (m ∷ ms) (n ∷ ns) e =
    let s = same_number m m n (numbers_bytes ms) (numbers_bytes ns) (omega arith) e in
    ap (λ k. k ∷ ms) s.0 ∙ ap (λ ks. n ∷ ks) (same_numbers ms ns s.1)

same_entries : (deck deck' : List Entry) → flat_map entry_numbers_of deck ≡ flat_map entry_numbers_of deck' → deck ≡ deck'
same_entries [] [] q = refl
same_entries [] (e ∷ deck) q = let z : ◌≡◌ {A = ℕ} 0 1 = omega (arith, ap length q) in cc
same_entries (e ∷ deck) [] q = let z : ◌≡◌ {A = ℕ} 0 1 = omega (arith, ap length q) in cc
same_entries (e ∷ deck) (e' ∷ deck') q =
    let rest = same_entries deck deck' (others (others q)) in
    λ i. record { vector = first q i; response = first (others q) i } ∷ rest i

pub equal_files_equal_decks : (inputs outputs : ℕ) (deck : List Entry) → EqualFilesEqualDecks inputs outputs deck
equal_files_equal_decks inputs outputs deck inputs' outputs' deck' = (
  λ e. let s = others (same_numbers (file_numbers inputs outputs deck) (file_numbers inputs' outputs' deck') e) in
      (first s, first (others s), same_entries deck deck' (others (others (others s)))),
  λ q i. file_bytes (q.0 i) (q.1 i) (q.2 i),
)
