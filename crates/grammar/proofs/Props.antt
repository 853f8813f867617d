-- That declarations are proper has one proof at most, so that a type can carry it.
use Rattle.std.proofs.Common.{◌≡◌, ℕ, true, cond, List, [], ◌∷◌, length, codes, Some, None, Option, sym, refl, ap, ◌∙◌}
use Rattle.std.proofs.Props.{props}
use Rattle.std.specs.Str.{bytes_eq}
use mathlib.Core.HLevel.{×_prop, Σ_prop_path, Unit-prop}
use Rattle.model.specs.declared.kind.Kind.{Kind}
use Rattle.model.specs.declared.kind.Kind.TheVariants.{And, Nand, Or, Nor, Xor, Xnor, Not, Buff}
use Rattle.model.specs.Kinds.{word, takes}
use Rattle.grammar.specs.Grammar.{Statement, input, output, gate}
use Rattle.grammar.specs.Rules.{Declaration, nets}
use Rattle.grammar.specs.Proper.{ProperStatement, AllProper, Distinct, Proper}

-- the kind that a word names
named : List ℕ → Option Kind
named w = cond (bytes_eq w (codes "AND")) (Some And) (cond (bytes_eq w (codes "NAND")) (Some Nand) (cond (bytes_eq w (codes "OR")) (Some Or) (cond (bytes_eq w (codes "NOR")) (Some Nor) (cond (bytes_eq w (codes "XOR")) (Some Xor) (cond (bytes_eq w (codes "XNOR")) (Some Xnor) (cond (bytes_eq w (codes "NOT")) (Some Not) (cond (bytes_eq w (codes "BUFF")) (Some Buff) None)))))))

named_word : (k : Kind) → named (word k) ≡ Some k
unfolding named
named_word And = refl
named_word Nand = refl
named_word Or = refl
named_word Nor = refl
named_word Xor = refl
named_word Xnor = refl
named_word Not = refl
named_word Buff = refl

-- no two kinds are written alike
pub same_kind : (j k : Kind) → word j ≡ word k → j ≡ k
same_kind j k e = let f : Some j ≡ Some k = sym (named_word j) ∙ ap named e ∙ named_word k in cc

Takes : List ℕ → ℕ → Kind → Type 0
Takes w n k = (w ≡ word k) × (takes k n ≡ true)

one_kind : (w : List ℕ) (n : ℕ) → IsProp ((k : Kind) × (w ≡ word k) × (takes k n ≡ true))
unfolding Takes
one_kind w n x y =
    let pairs : (a b : (k : Kind) × Takes w n k) → a ≡ b = λ a b. Σ_prop_path (λ k. Prim.hlevel props) (same_kind a.0 b.0 (sym a.1.0 ∙ b.1.0)) in
    ap (λ (a : (k : Kind) × Takes w n k). (a.0, a.1.0, a.1.1)) (pairs (x.0, (x.1, x.2)) (y.0, (y.1, y.2)))

one_proof : (s : Statement) → IsProp (ProperStatement s)
one_proof (input n) = Prim.hlevel props
one_proof (output n) = Prim.hlevel props
one_proof (gate n k os) = ×_prop (Prim.hlevel props) (one_kind k (length os))

all_proper : (ds : List Declaration) → IsProp (AllProper ds)
all_proper [] = Unit-prop
all_proper (d ∷ ds) = ×_prop (one_proof d.says) (all_proper ds)

distinct : (ns : List (List ℕ)) → IsProp (Distinct ns)
distinct ns = Prim.hlevel props

pub Proper-prop : (ds : List Declaration) → IsProp (Proper ds)
Proper-prop ds x y = λ i. record { all = all_proper ds x.all y.all i; distinct = distinct (nets ds) x.distinct y.distinct i }
