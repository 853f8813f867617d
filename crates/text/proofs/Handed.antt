-- The iterator of names hands out the names that are left.
use Rattle.std.proofs.Common.{◌≡◌, ℕ, List, length, ap, ◌∙◌}
use Rattle.std.specs.Iterator.{Drains}
use Rattle.std.proofs.lemmas.Iterator.{YieldsList}
use Rattle.std.proofs.lemmas.Iterator.Consumers.{YieldsList-from_shown, count_from_yields_List}
use Rattle.names.specs.declared.name.Name.{Name}
use Rattle.text.specs.declared.cursor.Names.{Names}
use Rattle.text.specs.Tokens.{names_of, GivesNextName}

pub names_handed_out : (s : Names) → YieldsList GivesNextName (λ n. n.bytes.now) s (names_of s)
names_handed_out s = YieldsList-from_shown GivesNextName (λ n. n.bytes.now) names_of (λ t u h. ap length h.0) (λ t x u h. h.0) s

-- `count` counts them
pub names_counted : (s : Names) (n : ℕ) (ns : List (List ℕ)) → ((xs : List Name) × Drains GivesNextName s xs × (n ≡ length xs)) → names_of s ≡ ns → n ≡ length ns
names_counted s n ns h e = count_from_yields_List s n h (names_handed_out s) ∙ ap length e
