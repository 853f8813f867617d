use Rattle.std.proofs.Common.{◌≡◌, [], get_or, vec_items, sym, ap, ◌∙◌, arith}
use Rattle.std.proofs.lemmas.List.{get_or-map}
use Rattle.std.proofs.lemmas.Slice.Eq.{slice_eq-Decides}
use Rattle.names.specs.Tables.{bytes_of, held}
use Rattle.names.proofs.Held.{held_length}
use Rattle.names.proofs.table.Names.is_at.Goals as goal
use Rattle.std.proofs.lemmas.Bool.Decides.{Decides-eqb}

pub returns : goal.returns
returns c =
    let t = c.args.self.now in
    let name = c.index.result.now in
    let here : get_or (held t) c.args.i [] ≡ bytes_of name = get_or-map bytes_of (vec_items t.names) c.args.i name [] (omega (arith, held_length t, t.names.ok.0)) ∙ ap bytes_of (sym c.index.ensures) in
    let same = slice_eq-Decides Decides-eqb _ _ _ c.eq.ensures in
    (λ e. here ∙ same.0 e, λ e. same.1 (sym here ∙ e))
