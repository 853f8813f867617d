-- A vector file, number by number and byte by byte.
use Rattle.std.specs.Prelude.{◌≡◌, ℕ, List, [], ◌∷◌, ◌++◌, length}
use Rattle.std.specs.List.{flat_map}
use Rattle.vector_file.specs.declared.entry.Entry.{Entry}
use Rattle.vector_file.specs.Numbers.{numbers_bytes}

-- the first is the format's number
abbrev pub header_numbers : ℕ → ℕ → ℕ → List ℕ
header_numbers inputs outputs vectors = 1 ∷ inputs ∷ outputs ∷ vectors ∷ []

abbrev pub entry_numbers_of : Entry → List ℕ
entry_numbers_of e = e.vector ∷ e.response ∷ []

abbrev pub file_numbers : ℕ → ℕ → List Entry → List ℕ
file_numbers inputs outputs deck = header_numbers inputs outputs (length deck) ++ flat_map entry_numbers_of deck

abbrev pub file_bytes : ℕ → ℕ → List Entry → List ℕ
file_bytes inputs outputs deck = numbers_bytes (file_numbers inputs outputs deck)

-- no two decks have one file: files are equal exactly when the inputs, the outputs and the decks are
abbrev pub EqualFilesEqualDecks : ℕ → ℕ → List Entry → Type 0
EqualFilesEqualDecks n m deck =
    (n' m' : ℕ) (deck' : List Entry) →
    (file_bytes n m deck ≡ file_bytes n' m' deck' → (n ≡ n') × (m ≡ m') × (deck ≡ deck'))
    × ((n ≡ n') × (m ≡ m') × (deck ≡ deck') → file_bytes n m deck ≡ file_bytes n' m' deck')
