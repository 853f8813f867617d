-- One turn of the walk, from what the code finds to where it goes on.
use Rattle.std.proofs.Common.{◌≡◌, ℕ, ◌+◌, ◌-◌, ◌<◌, ◌≤◌, List, [], ◌∷◌, ◌++◌, length, get_or, set, sum_by, sym, refl, ap, ◌∙◌, subst, arith}
use Rattle.std.proofs.lemmas.List.{length_push, get_or_append_left, get_or_at}
use Rattle.std.proofs.lemmas.List.Sums.{sum_by-set}
use Rattle.circuit.specs.Circuit.{Cell, operands_at, ReadsIn}
use Rattle.circuit.specs.Circles.{DependsOnCircle}
use Rattle.walk.specs.declared.mark.Mark.{Mark}
use Rattle.walk.specs.declared.mark.Mark.TheVariants.{New, Open, Done}
use Rattle.walk.specs.Walks.{mark_at, Walk, Stays, Following, weight}
use Rattle.walk.proofs.Marks.{new_not_open, new_not_done, open_not_done, same_open, kept, marked, within_mark}
use Rattle.walk.proofs.Walking.{enter, pass, leave, path_leads, circle, room_left, order_left}

-- a mark of less weight
pub lighter : (marks : List Mark) (x : ℕ) {old : Mark} (m : Mark) → x < length marks → mark_at marks x ≡ old → weight m < weight old → sum_by weight (set marks x m) < sum_by weight marks
lighter marks x {old} m within at less =
    omega (arith, subst (λ z. sum_by weight (set marks x m) + weight z ≡ sum_by weight marks + weight m) at (sum_by-set weight marks x m New within))

stays_set : (before marks : List Mark) (x : ℕ) (old m : Mark) → mark_at marks x ≡ old → (Done ≡ old → ⊥) → Stays before marks → Stays before (set marks x m)
stays_set before marks x old m at other stays k done = kept marks x m k old Done at other (stays k done)

-- a list's first element stays with one more at the end
first_push : (xs : List ℕ) (x y : ℕ) → get_or ((xs ++ x ∷ []) ++ y ∷ []) 0 0 ≡ get_or (xs ++ x ∷ []) 0 0
first_push xs x y = get_or_append_left (xs ++ x ∷ []) (y ∷ []) 0 0 (omega (arith, length_push xs x))

-- a new net is opened
pub opens : {cells : List Cell} {order path : List ℕ} {x n : ℕ} {marks : List Mark} → Walk cells order [] marks → mark_at marks x ≡ New → x < length marks → path ≡ [] → n ≡ length (operands_at cells x) →
    Following cells x (set marks x (Open n)) order path x (set marks x (Open n))
opens {cells} {order} {path} {x} {n} {marks} w new within none is = record {
  state = subst (λ p. Walk cells order (p ++ x ∷ []) (set marks x (Open n))) (sym none)
      (subst (λ z. Walk cells order ([] ++ x ∷ []) (set marks x (Open z))) (sym is)
      (enter cells order [] marks x w within new (λ i lt. absurd (omega arith))));
  first = ap (λ z. get_or (z ++ x ∷ []) 0 0) none;
  stays = λ k e. e;
}

pub opening : (marks : List Mark) (x n : ℕ) → mark_at marks x ≡ New → Stays marks (set marks x (Open n))
opening marks x n new = stays_set marks marks x New (Open n) new (λ e. new_not_done (sym e)) (λ k e. e)

module _ {cells : List Cell} {start : ℕ} {before : List Mark} {order path : List ℕ} {net : ℕ} {marks : List Mark} (f : Following cells start before order path net marks) where
  last_at : get_or (path ++ net ∷ []) (length path) 0 ≡ net
  last_at = get_or_at path net [] 0 (length path) refl

  -- the walk is at an open net
  at_open : (left : ℕ) × (mark_at marks net ≡ Open left) × (left ≤ length (operands_at cells net))
  at_open =
      let here = f.state.entered (length path) (omega (arith, length_push path net)) in
      (here.0, ap (mark_at marks) (sym last_at) ∙ here.1, subst (λ z. here.0 ≤ length (operands_at cells z)) last_at here.2)

  pub is_open : (left : ℕ) × (mark_at marks net ≡ Open left)
  is_open = (at_open.0, at_open.1)

  pub is_marked : net < length marks
  is_marked = within_mark marks net (Open at_open.0) (new_not_open at_open.0) at_open.1

  -- the order lacks a net
  pub order_lacks : length order < length cells
  order_lacks = order_left cells order (path ++ net ∷ []) marks net at_open.0 f.state is_marked at_open.1

  -- with a new net, so does the path with the net that the walk is at
  pub path_lacks : {x : ℕ} → x < length marks → mark_at marks x ≡ New → length path + 1 < length cells
  path_lacks {x} within new = omega (arith, room_left cells order (path ++ net ∷ []) marks x f.state within new, length_push path net)

  -- with no operand left, the net is done
  module _ {n : ℕ} {order' : List ℕ} (opened : mark_at marks net ≡ Open n) (none : n ≡ 0) (pushed : order' ≡ order ++ net ∷ []) where
    left_net : {path' : List ℕ} → path ≡ path' → Walk cells order' path' (set marks net Done)
    left_net {path'} popped =
        subst (λ z. Walk cells z path' (set marks net Done)) (sym pushed)
        (subst (λ z. Walk cells (order ++ net ∷ []) z (set marks net Done)) popped
        (leave cells order path marks net f.state is_marked (opened ∙ ap Open none)))

    stays_done : Stays before (set marks net Done)
    stays_done = stays_set before marks net (Open n) Done opened (λ e. open_not_done n (sym e)) f.stays

    pub ends : (old : List Mark) → path ≡ [] → Stays old before → Walk cells order' [] (set marks net Done) × (mark_at (set marks net Done) start ≡ Done) × Stays old (set marks net Done)
    ends old popped earlier =
        let same : net ≡ start = sym (ap (λ z. get_or (z ++ net ∷ []) 0 0) popped) ∙ f.first in
        (left_net popped, marked marks net Done start is_marked (sym same), λ k done. stays_done k (earlier k done))

    pub leaves : {path' : List ℕ} {below : ℕ} → path ≡ path' ++ below ∷ [] → Following cells start before order' path' below (set marks net Done)
    leaves {path'} {below} popped = record {
      state = left_net popped;
      first = sym (first_push path' below net) ∙ ap (λ z. get_or (z ++ net ∷ []) 0 0) (sym popped) ∙ f.first;
      stays = stays_done;
    }

  -- else there is an operand to look at
  module _ {n : ℕ} (opened : mark_at marks net ≡ Open n) (some : n ≡ 0 → ⊥) where
    pub looks : n - 1 < length (operands_at cells net)
    looks = omega (arith, same_open at_open.0 n (sym at_open.1 ∙ opened), at_open.2, some)

    module _ {x : ℕ} (is : x ≡ get_or (operands_at cells net) (n - 1) 0) where
      reads : ReadsIn cells net x
      reads = (n - 1, looks, sym is)

      pub passes : mark_at marks x ≡ Done → Following cells start before order path net (set marks net (Open (n - 1)))
      passes done =
          let size : n ≡ n - 1 + 1 = omega arith in
          record {
            state = pass cells order (path ++ net ∷ []) marks net f.state is_marked (n - 1) (opened ∙ ap Open size) (ap (mark_at marks) (sym is) ∙ done);
            first = f.first;
            stays = stays_set before marks net (Open n) (Open (n - 1)) opened (λ e. open_not_done n (sym e)) f.stays;
          }

      pub deepens : {path' : List ℕ} {m : ℕ} → mark_at marks x ≡ New → x < length marks → path' ≡ path ++ net ∷ [] → m ≡ length (operands_at cells x) → Following cells start before order path' x (set marks x (Open m))
      deepens {path'} {m} new within pushed count = record {
        state = subst (λ p. Walk cells order (p ++ x ∷ []) (set marks x (Open m))) (sym pushed)
            (subst (λ z. Walk cells order ((path ++ net ∷ []) ++ x ∷ []) (set marks x (Open z))) (sym count)
            (enter cells order (path ++ net ∷ []) marks x f.state within new (path_leads cells order path marks net x f.state reads)));
        first = ap (λ z. get_or (z ++ x ∷ []) 0 0) pushed ∙ first_push path net x ∙ f.first;
        stays = stays_set before marks x New (Open m) new (λ e. new_not_done (sym e)) f.stays;
      }

      -- an operand that is open closes a circle
      pub meets : {left : ℕ} → mark_at marks x ≡ Open left → DependsOnCircle cells start
      meets {left} again = subst (DependsOnCircle cells) f.first (circle cells order path marks net x left f.state reads again)
