-- More bytes into the rest of a buffer, for other crates too.
use Rattle.std.proofs.Common.{◌≡◌, ℕ, ◌+◌, ◌-◌, ◌≤◌, List, ◌++◌, length, take, drop, sym, ap, ◌∙◌, append_assoc, arith, length-append, length-drop}
use borrow.Rule.Slice.PartMut.{put_mid}
use Rattle.std.proofs.lemmas.List.{append-nil, drop_all, drop_at, drop-drop, take_at, take_rest}
use Rattle.report.specs.Outcome.{Placed}

-- a write to `&mut xs[a..]`
put_rest : (a : ℕ) (xs ys : List ℕ) → a ≤ length xs → put_mid a (length xs - a) xs ys ≡ take a xs ++ ys
put_rest a xs ys h =
    ap (λ zs. take a xs ++ (ys ++ zs)) (drop_all (length xs - a) (drop a xs) (omega (arith, length-drop a xs))) ∙ ap (λ zs. take a xs ++ zs) (append-nil ys)

-- one more piece behind those that stand already
pub placed_next : (done more before out inner : List ℕ) (at k : ℕ) → at ≤ length out → Placed done before at out → Placed more (take (length out - at) (drop at out)) k inner → Placed (done ++ more) before (at + k) (put_mid at (length out - at) out inner)
placed_next done more before out inner at k h p q = (
  omega (arith, p.0, q.0, length-append done more),
  put_rest at out inner h
      ∙ ap (λ zs. zs ++ inner) (ap (take at) p.1 ∙ take_at done (drop at before) at (sym p.0))
      ∙ ap (λ zs. done ++ zs) (q.1 ∙ ap (λ zs. more ++ drop k zs) (take_rest out at ∙ ap (drop at) p.1 ∙ drop_at done (drop at before) at (sym p.0)) ∙ ap (λ zs. more ++ zs) (drop-drop k at before))
      ∙ sym (append_assoc done more (drop (at + k) before)),
)
