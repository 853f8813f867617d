use Rattle.std.proofs.Common.{◌≡◌, ℕ, ◌+◌, ◌<◌, [], map, length, get_or, vec_items, vec_len, sym, ap, ◌∙◌, arith}
use Rattle.names.specs.Buckets.{bucket, last_in}
use Rattle.std.proofs.lemmas.List.{map_push, get_or_read}
use Rattle.names.specs.Tables.{bytes_of, held}
use Rattle.names.proofs.Held.{held_length}
use Rattle.names.proofs.Chains.{heads_push, chains_push}
use Rattle.names.proofs.table.Names.add.Goals as goal

pub invariant_of-self-clause-heads : goal.invariant_of-self-clause-heads
invariant_of-self-clause-heads c =
    let t = c.args.self.now in
    let pushed = c.push_reserved-2.ensures in
    let held_more = ap (map bytes_of) pushed.items ∙ map_push bytes_of (vec_items t.names) c.args.name in
    let number = c.len-number.ensures ∙ held_length t in
    let b = c.bucket_of-b.ensures in
    let items = vec_items t.newest in
    let inside : c.bucket_of-b.result < length items = omega (arith, b.within, t.newest.ok.0, t.buckets) in
    let heads : (k : ℕ) → k < 4096 → get_or items k 0 ≡ last_in (held t) k c.len-number.result = λ k h. t.heads k h ∙ ap (last_in (held t) k) (sym number) in
    heads_push (held t) (map bytes_of (vec_items c.push_reserved-2.new.self)) (bytes_of c.args.name) items c.bucket_of-b.result c.len-number.result (vec_len c.push_reserved-2.new.self) held_more (pushed.len ∙ ap (λ (k : ℕ). k + 1) (sym number)) (held_length t ∙ sym number) b.value inside heads

pub invariant_of-self-clause-chains : goal.invariant_of-self-clause-chains
invariant_of-self-clause-chains c =
    let t = c.args.self.now in
    let pushed = c.push_reserved-2.ensures in
    let held_more = ap (map bytes_of) pushed.items ∙ map_push bytes_of (vec_items t.names) c.args.name in
    let number = c.len-number.ensures ∙ held_length t in
    let b = c.bucket_of-b.ensures in
    let items = vec_items t.newest in
    let inside : c.bucket_of-b.result < length items = omega (arith, b.within, t.newest.ok.0, t.buckets) in
    let next : c.index-next.result.now ≡ last_in (held t) (bucket (bytes_of c.args.name)) c.len-number.result = get_or_read items c.bucket_of-b.result c.index-next.result.now inside c.index-next.ensures 0 ∙ t.heads c.bucket_of-b.result b.within ∙ ap (last_in (held t) c.bucket_of-b.result) (sym number) ∙ ap (λ (k : ℕ). last_in (held t) k c.len-number.result) b.value in
    let chains : (i : ℕ) → i < c.len-number.result → get_or (vec_items t.older) i 0 ≡ last_in (held t) (bucket (get_or (held t) i [])) i = λ i h. t.chains i (omega (arith, h, number)) in
    chains_push (held t) (map bytes_of (vec_items c.push_reserved-2.new.self)) (bytes_of c.args.name) (vec_items t.older) (vec_items c.push_reserved.new.self) c.index-next.result.now c.len-number.result (vec_len c.push_reserved-2.new.self) held_more c.push_reserved.ensures.items (pushed.len ∙ ap (λ (k : ℕ). k + 1) (sym number)) (held_length t ∙ sym number) (omega (arith, t.older.ok.0, t.paired, number)) next chains
