-- A file is its header and then its entries, one behind the other; how long they are.
use Rattle.std.proofs.Common.{◌≡◌, ℕ, suc, ◌+◌, ◌-◌, ◌*◌, ◌<◌, ◌≤◌, List, [], ◌∷◌, ◌++◌, length, get_or, take, Fits, w64, refl, ap, ◌∙◌, sym, append_assoc, arith, length-append}
use Rattle.std.specs.List.{sum_by, flat_map}
use Rattle.std.proofs.lemmas.Grind.{flat_map-append}
use Rattle.std.proofs.lemmas.List.{append-nil, take_more}
use Rattle.std.proofs.lemmas.List.Concat.{length-flat_map}
use Rattle.std.proofs.lemmas.List.Folds.{length-flat_map-take}
use Rattle.std.proofs.lemmas.List.Sums.{sum_by-cons}
use Rattle.vector_file.specs.declared.entry.Entry.{Entry}
use Rattle.vector_file.specs.Numbers.{number_bytes, numbers_bytes}
use Rattle.vector_file.specs.Files.{header_numbers, entry_numbers_of, file_bytes}
use Rattle.vector_file.proofs.Groups.{word_length}

pub numbers_size : (ns : List ℕ) → length (numbers_bytes ns) ≡ sum_by (λ n. length (number_bytes n)) ns
numbers_size ns = length-flat_map number_bytes ns

pub numbers_small : (ns : List ℕ) → ((i : ℕ) → Fits w64 (get_or ns i 0)) → sum_by (λ n. length (number_bytes n)) ns ≤ 10 * length ns
numbers_small [] h = omega arith
numbers_small (n ∷ ns) h = omega (arith, sum_by-cons (λ m. length (number_bytes m)) n ns, word_length n (omega (arith, h 0)), numbers_small ns (λ i. h (suc i)))

abbrev pub entry_bytes : Entry → List ℕ
entry_bytes e = numbers_bytes (entry_numbers_of e)

entries_bytes : (deck : List Entry) → numbers_bytes (flat_map entry_numbers_of deck) ≡ flat_map entry_bytes deck
entries_bytes [] = refl
entries_bytes (e ∷ deck) = flat_map-append number_bytes (entry_numbers_of e) (flat_map entry_numbers_of deck) ∙ ap (λ zs. entry_bytes e ++ zs) (entries_bytes deck)

module _ (inputs outputs : ℕ) (deck : List Entry) where
  abbrev pub header_bytes : List ℕ
  header_bytes = numbers_bytes (header_numbers inputs outputs (length deck))

  pub file_split : file_bytes inputs outputs deck ≡ header_bytes ++ flat_map entry_bytes deck
  file_split = flat_map-append number_bytes (header_numbers inputs outputs (length deck)) (flat_map entry_numbers_of deck) ∙ ap (λ zs. header_bytes ++ zs) (entries_bytes deck)

  pub file_size : length (file_bytes inputs outputs deck) ≡ length header_bytes + length (flat_map entry_bytes deck)
  file_size = ap length file_split ∙ length-append header_bytes (flat_map entry_bytes deck)

  -- a room counted down: behind the header
  pub file_left : (n room left : ℕ) → n ≡ length header_bytes → n ≤ room → left ≡ room - n → left + length (header_bytes ++ flat_map entry_bytes (take 0 deck)) ≡ room
  file_left n room left e h l = omega (arith, e, h, l, length-append header_bytes [])

  -- the entry that stands for one past the end
  abbrev pub blank : Entry
  blank = record { vector = 0; response = 0 }

  module _ (i : ℕ) (h : i < length deck) where
    pub split_next : header_bytes ++ flat_map entry_bytes (take (i + 1) deck) ≡ (header_bytes ++ flat_map entry_bytes (take i deck)) ++ entry_bytes (get_or deck i blank)
    split_next = ap (λ es. header_bytes ++ flat_map entry_bytes es) (take_more deck i blank h)
        ∙ ap (λ zs. header_bytes ++ zs) (flat_map-append entry_bytes (take i deck) (get_or deck i blank ∷ []) ∙ ap (λ zs. flat_map entry_bytes (take i deck) ++ zs) (append-nil (entry_bytes (get_or deck i blank))))
        ∙ sym (append_assoc header_bytes (flat_map entry_bytes (take i deck)) (entry_bytes (get_or deck i blank)))

    -- where there is room for the file, there is for its next entry
    pub split_room : length (header_bytes ++ flat_map entry_bytes (take i deck)) + length (entry_bytes (get_or deck i blank)) ≤ length (file_bytes inputs outputs deck)
    split_room = omega (arith, file_size, length-append header_bytes (flat_map entry_bytes (take i deck)), length-flat_map-take entry_bytes deck i blank h)

    -- a room counted down: behind one entry more, or over
    module _ (room left n : ℕ) (so_far : left + length (header_bytes ++ flat_map entry_bytes (take i deck)) ≡ room) (e : n ≡ length (entry_bytes (get_or deck i blank))) where
      pub split_left : (less : ℕ) → n ≤ left → less ≡ left - n → less + length (header_bytes ++ flat_map entry_bytes (take (i + 1) deck)) ≡ room
      split_left less l q = omega (arith, so_far, e, l, q, ap length split_next, length-append (header_bytes ++ flat_map entry_bytes (take i deck)) (entry_bytes (get_or deck i blank)))

      pub split_over : (n ≤ left → ⊥) → room < length (file_bytes inputs outputs deck)
      split_over over = omega (arith, so_far, e, over, split_room)
