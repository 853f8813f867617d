use Rattle.std.proofs.Common.{◌≡◌, List, [], ◌∷◌, ◌++◌, map, length, vec_items, sym, ap, ◌∙◌, subst, arith}
use Rattle.std.proofs.lemmas.List.{map_push, length-map}
use Rattle.model.specs.declared.counts.Counts.{Counts}
use Rattle.names.specs.Tables.{held}
use Rattle.grammar.specs.Rules.{net_of, input_of, output_of, pins_of, is_too_many}
use Rattle.grammar.specs.Rules as rules
use Rattle.grammar.specs.Proper.{Proper}
use Rattle.grammar.proofs.Properly.{proper_push}
use Rattle.bench.specs.Statements.{said, declaration}
use Rattle.bench.specs.SoFar.{declared}
use Rattle.bench.proofs.Counted.{fits, one_each, declared_count, names_follow, count_follows}
use Rattle.bench.proofs.declarations.Declarations.note.Goals as goal

pub add-requires : goal.add-requires
add-requires c =
    let d = c.args.self.now in
    omega (arith, ap length d.nets_are, d.net_room, ap length c.defines.ensures.net, (fits (declared d) c.args.next.line (said c.args.next.says) c.requires.room).nets_fit)

pub add-requires-2 : goal.add-requires-2
add-requires-2 c =
    let d = c.args.self.now in
    omega (arith, ap length d.outputs_are, d.output_room, ap length c.lists.ensures.output, (fits (declared d) c.args.next.line (said c.args.next.says) c.requires.room).outputs_fit)

pub push_reserved-requires : goal.push_reserved-requires
push_reserved-requires c =
    let d = c.args.self.now in
    let fit = fits (declared d) c.args.next.line (said c.args.next.says) c.requires.room in
    omega (arith, fit.nets_fit, fit.outputs_fit, one_each (said c.args.next.says), declared_count (declared d), length-map (vec_items d.list) declaration, d.list.ok.0, d.room)

pub invariant_of-self : goal.invariant_of-self
invariant_of-self c =
    let d = c.args.self.now in
    let says = said c.args.next.says in
    let new : rules.Declaration = record { line = c.args.next.line; says = says } in
    let es = map declaration (vec_items c.push_reserved.new.self) in
    let grown : es ≡ declared d ++ new ∷ [] = ap (map declaration) c.push_reserved.ensures.items ∙ map_push declaration (vec_items d.list) _ in
    let nets = c.add.ensures.held ∙ ap (λ (ns : List (List _)). held d.nets ++ ns) c.defines.ensures.net in
    let outputs = c.add-2.ensures.held ∙ ap (λ (ns : List (List _)). held d.outputs ++ ns) c.lists.ensures.output in
    record {
      room = omega (arith, d.room, c.push_reserved.ensures.capacity);
      net_room = c.add.ensures.most ∙ d.net_room;
      output_room = c.add-2.ensures.most ∙ d.output_room;
      nets_are = names_follow net_of (declared d) es new (held d.nets) (held c.add.new.names) grown d.nets_are nets;
      outputs_are = names_follow output_of (declared d) es new (held d.outputs) (held c.add-2.new.names) grown d.outputs_are outputs;
      inputs_are = count_follows input_of (declared d) es new d.inputs c.counts-more.result.inputs grown d.inputs_are (ap (λ (k : Counts). k.inputs) c.counts-more.ensures);
      pins_are = count_follows pins_of (declared d) es new d.pins c.counts-more.result.pins grown d.pins_are (ap (λ (k : Counts). k.pins) c.counts-more.ensures);
      within = ap is_too_many grown ∙ c.requires.room;
      proper = subst Proper (sym grown) (proper_push (declared d) c.args.next.line says d.proper c.requires.proper c.requires.new);
    }
