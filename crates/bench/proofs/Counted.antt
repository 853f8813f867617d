-- What one statement more does to the numbers of nets, pins, inputs and outputs.
use Rattle.std.proofs.Common.{◌≡◌, ℕ, ◌+◌, ◌-◌, ◌≤◌, Bool, false, ◌||◌, ltb, List, [], ◌∷◌, ◌++◌, length, sym, refl, ap, ◌∙◌, arith}
use Rattle.std.proofs.lemmas.List.{append-nil, append_assoc, length-append}
use Rattle.std.proofs.lemmas.Bool.Decides.{nat_tests}
use Rattle.grammar.specs.Grammar.{Statement, input, output, gate}
use Rattle.grammar.specs.Rules.{Declaration, gathered, net_of, input_of, output_of, pins_of, nets, inputs, outputs, pins, is_too_many}
use Rattle.bench.specs.Statements.{size_of}
use Rattle.bench.specs.SoFar.{counts_of}
use Rattle.model.specs.declared.counts.Counts.{Counts}

pub gathered_more : (f : Statement → List (List ℕ)) (ds : List Declaration) (d : Declaration) → gathered f (ds ++ d ∷ []) ≡ gathered f ds ++ f d.says
gathered_more f [] d = append-nil (f d.says)
gathered_more f (e ∷ ds) d =
    ap (λ (ns : List (List ℕ)). f e.says ++ ns) (gathered_more f ds d) ∙ sym (append_assoc (f e.says) (gathered f ds) (f d.says))

pub counted_more : (f : Statement → List (List ℕ)) (ds : List Declaration) (d : Declaration) → length (gathered f (ds ++ d ∷ [])) ≡ length (gathered f ds) + length (f d.says)
counted_more f ds d = ap length (gathered_more f ds d) ∙ length-append (gathered f ds) (f d.says)

-- the four tests, by the numbers of nets, pins, inputs and outputs
beyond : ℕ → ℕ → ℕ → ℕ → Bool
beyond n p i o = ltb 2048 n || (ltb 8192 p || (ltb 64 i || ltb 64 o))

too_many : (ds : List Declaration) → is_too_many ds ≡ beyond (length (nets ds)) (length (pins ds)) (length (inputs ds)) (length (outputs ds))
unfolding beyond
too_many ds = refl

-- the numbers with one statement more
beyond_more : (ds : List Declaration) (d : Declaration) → is_too_many (ds ++ d ∷ []) ≡ beyond (length (nets ds) + length (net_of d.says)) (length (pins ds) + length (pins_of d.says)) (length (inputs ds) + length (input_of d.says)) (length (outputs ds) + length (output_of d.says))
beyond_more ds d =
    let n = counted_more net_of ds d in
    let p = counted_more pins_of ds d in
    let i = counted_more input_of ds d in
    let o = counted_more output_of ds d in
    let t = too_many (ds ++ d ∷ []) in
    cc

-- the four tests, by what is left of the limits
beyond_left : (n p i o m q j r : ℕ) → beyond n p i o ≡ false → beyond (n + m) (p + q) (i + j) (o + r) ≡ (ltb (2048 - n) m || (ltb (8192 - p) q || (ltb (64 - i) j || ltb (64 - o) r)))
unfolding beyond
beyond_left n p i o m q j r h = grind (arith, nat_tests)

pub exceeds : (ds : List Declaration) (d : Declaration) (so_far more : Counts) → so_far ≡ counts_of ds → more ≡ size_of d.says → is_too_many ds ≡ false → is_too_many (ds ++ d ∷ []) ≡ (ltb (2048 - so_far.nets) more.nets || (ltb (8192 - so_far.pins) more.pins || (ltb (64 - so_far.inputs) more.inputs || ltb (64 - so_far.outputs) more.outputs)))
exceeds ds d so_far more e f h = rw (e, f) (beyond_more ds d ∙ beyond_left _ _ _ _ _ _ _ _ (sym (too_many ds) ∙ h))

within_beyond : (n p i o : ℕ) → beyond n p i o ≡ false → (n ≤ 2048) × (p ≤ 8192) × (i ≤ 64) × (o ≤ 64)
unfolding beyond
within_beyond n p i o h = (grind (arith, nat_tests), grind (arith, nat_tests), grind (arith, nat_tests), grind (arith, nat_tests))

pub record Fit (ds : List Declaration) (s : Statement) : Type 0 where
  pub nets_fit : length (nets ds) + length (net_of s) ≤ 2048
  pub pins_fit : length (pins ds) + length (pins_of s) ≤ 8192
  pub inputs_fit : length (inputs ds) + length (input_of s) ≤ 64
  pub outputs_fit : length (outputs ds) + length (output_of s) ≤ 64

-- where one statement more is not too much, all numbers are within their limits
pub fits : (ds : List Declaration) (k : ℕ) (s : Statement) → is_too_many (ds ++ record { line = k; says = s } ∷ []) ≡ false → Fit ds s
fits ds k s h =
    let w = within_beyond _ _ _ _ (sym (beyond_more ds (record { line = k; says = s })) ∙ h) in
    record { nets_fit = w.0; pins_fit = w.1; inputs_fit = w.2; outputs_fit = w.3 }

pub one_each : (s : Statement) → length (net_of s) + length (output_of s) ≡ 1
one_each (input n) = refl
one_each (output n) = refl
one_each (gate n k os) = refl

-- each declaration defines a net or lists an output
pub declared_count : (ds : List Declaration) → length ds ≡ length (nets ds) + length (outputs ds)
declared_count [] = refl
declared_count (d ∷ ds) =
    omega (arith, declared_count ds, one_each d.says, length-append (net_of d.says) (nets ds), length-append (output_of d.says) (outputs ds))

-- the tables go with the declarations
pub names_follow : (f : Statement → List (List ℕ)) (ds es : List Declaration) (d : Declaration) (ns ms : List (List ℕ)) → es ≡ ds ++ d ∷ [] → ns ≡ gathered f ds → ms ≡ ns ++ f d.says → ms ≡ gathered f es
names_follow f ds es d ns ms e h g =
    g ∙ ap (λ (xs : List (List ℕ)). xs ++ f d.says) h ∙ sym (ap (gathered f) e ∙ gathered_more f ds d)

pub count_follows : (f : Statement → List (List ℕ)) (ds es : List Declaration) (d : Declaration) (n m : ℕ) → es ≡ ds ++ d ∷ [] → n ≡ length (gathered f ds) → m ≡ length (f d.says) → n + m ≡ length (gathered f es)
count_follows f ds es d n m e h g =
    omega (arith, ap (λ (xs : List Declaration). length (gathered f xs)) e, counted_more f ds d)
