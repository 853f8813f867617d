use Rattle.std.proofs.Common.{◌≡◌, ℕ, ◌+◌, ◌<◌, ◌++◌, ◌∷◌, [], List, length, get_or, map, set, take, vec_items, sym, refl, ap, subst, ◌∙◌, arith}
use Rattle.std.proofs.lemmas.List.{take_more, take_all, length-map, get_or-map, set-get_or, map-set}
use Rattle.walk.proofs.Tables.{read_net_lem}
use Rattle.std.specs.Prelude.{Vec}
use Rattle.std.specs.declared.alloc.Global.{Global}
use Rattle.circuit.specs.Tables.{cell_of}
use Rattle.order.specs.Cells.{cells_in, Reads}
use Rattle.netlist.specs.Readers.{lists_in, ReadSoFar}
use Rattle.netlist.proofs.Listing.{next_kept, next_pushed, all_read}
use Rattle.netlist.proofs.readers.add_net.Goals as goal
use Rattle.netlist.proofs.readers.add_net.Goals.{then-not-ends_with+in_ok-push, else-not-ends_with}

pub index_mut-own-requires : goal.index_mut-own-requires
index_mut-own-requires c =
    let gates = c.args.gates in
    let i = c.loop-read.read-index in
    let read = subst (Reads gates c.args.net) c.unwrap-read-items.ensures c.operands.ensures in
    let here = read_net_lem gates.nets.now gates.pins.now gates.formed c.args.net i c.requires.net (omega (arith, c.loop-read-test.true, ap length read.1)) in
    omega (arith, here, ap (λ (xs : List ℕ). get_or xs i 0) read.1, c.loop-read.invariant.size, length-map gates.nets.now (cell_of gates.pins.now), c.loop-read.readers.ok.0)

pub loop-read-preserved : goal.loop-read-preserved
loop-read-preserved c =
    let gates = c.args.gates in
    let i = c.loop-read.read-index in
    let items = c.unwrap-read-items.result.now in
    let k = get_or items i 0 in
    let vs = vec_items c.loop-read.readers in
    let own = c.deref.result.now in
    let inv = c.loop-read.invariant in
    let more : take (i + 1) items ≡ take i items ++ k ∷ [] = take_more items i 0 c.loop-read-test.true in
    let read = subst (Reads gates c.args.net) c.unwrap-read-items.ensures c.operands.ensures in
    let size : length (cells_in gates) ≡ length gates.nets.now = length-map gates.nets.now (cell_of gates.pins.now) in
    let inside : k < length (cells_in gates) =
    omega (arith, read_net_lem gates.nets.now gates.pins.now gates.formed c.args.net i c.requires.net (omega (arith, c.loop-read-test.true, ap length read.1)), ap (λ (xs : List ℕ). get_or xs i 0) read.1, size) in
    let lent = c.index_mut-own.result.now in
    let was : own ≡ get_or (lists_in vs) k [] =
    c.deref.ensures.value ∙ ap vec_items c.index_mut-own.ensures.value ∙ sym (get_or-map (λ (v : Vec ℕ Global). vec_items v) vs k lent [] (omega (arith, inside, inv.size))) in
    let P : List ℕ → Type 0 = λ xs. ReadSoFar (cells_in gates) c.args.net xs (vec_items c.if-not-ends_with.readers) in
    subst P (sym more) (elim c.if-not-ends_with.branch [
      | then-not-ends_with+in_ok-push w ↦
          let Q : List (Vec ℕ Global) → Type 0 = λ ws. ReadSoFar (cells_in gates) c.args.net (take i items ++ k ∷ []) ws in
          subst Q (sym (ap vec_items w.readers-is)) (next_pushed (cells_in gates) c.args.net (take i items) vs inv k inside own was (sym c.ends_with.ensures.value ∙ w.if-not-ends_with.true) w.push.new.self (w.in_ok-push.ensures.items ∙ ap (λ (xs : List ℕ). xs ++ c.args.net ∷ []) (sym c.deref.ensures.value)))
      | else-not-ends_with w ↦
          let same : vec_items c.if-not-ends_with.readers ≡ vs = ap (λ (v : Vec (Vec ℕ Global) Global). vec_items v) w.readers-is ∙ ap (set vs k) c.index_mut-own.ensures.value ∙ set-get_or vs k lent in
          next_kept (cells_in gates) c.args.net (take i items) vs inv k inside own was (sym c.ends_with.ensures.value ∙ w.if-not-ends_with.false) (vec_items c.if-not-ends_with.readers) (ap length same) (ap lists_in same)
    ])
