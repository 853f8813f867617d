-- A walk's steps: it enters a net, passes an operand, leaves a net; and what it tells at the end.
use Rattle.std.proofs.Common.{◌≡◌, ℕ, zero, suc, ◌+◌, ◌<◌, ◌≤◌, cond, eqb, List, [], ◌∷◌, ◌++◌, length, get_or, take, set, count_by, sym, refl, ap, ◌∙◌, subst, ⊎_elim, arith}
use Rattle.std.proofs.lemmas.List.{length-set, length_push, get_or_append_left, get_or_at, take_all}
use Rattle.std.proofs.lemmas.List.Sums.{count_by_more_yes, count_by-le-length}
use Rattle.std.proofs.lemmas.Bool.{cases_eq, eq-eqb, ne_eqb, cond-true, cond-false}
use Rattle.circuit.specs.Circuit.{Cell, operands_at, ReadsIn}
use Rattle.circuit.specs.Circles.{LeadsBack, step, further, DependsOnCircle, Sorted}
use Rattle.walk.specs.declared.mark.Mark.{Mark}
use Rattle.walk.specs.declared.mark.Mark.TheVariants.{New, Open, Done}
use Rattle.walk.specs.Walks.{mark_at, is_open, is_done, Walk}
use Rattle.walk.proofs.Marks.{new_not_open, open_not_done, new_not_done, same_open, at_push, kept, was, marked, unmarked, recount, within_mark}

module _ (cells : List Cell) where
  -- all of a path leads back to what its last net reads
  pub path_leads : (order held : List ℕ) (marks : List Mark) (x j : ℕ) → Walk cells order (held ++ x ∷ []) marks → ReadsIn cells x j → (i : ℕ) → i < length (held ++ x ∷ []) → LeadsBack cells (get_or (held ++ x ∷ []) i 0) j
  path_leads order held marks x j w reads i within = ⊎_elim
      (λ (lt, e).
      let last : get_or (held ++ x ∷ []) (length held) 0 ≡ x = get_or_at held x [] 0 (length held) refl in
      further (subst (LeadsBack cells (get_or (held ++ x ∷ []) i 0)) last (w.chain i (length held) lt (omega (arith, length_push held x))).0) reads)
      (λ (e, f). step (subst (λ z. ReadsIn cells z j) (sym f) reads))
      (at_push held x i within)

  module _ (order path : List ℕ) (marks : List Mark) (x : ℕ) (w : Walk cells order path marks) (within : x < length marks) where
    -- the walk comes to a new net
    pub enter : mark_at marks x ≡ New → ((i : ℕ) → i < length path → LeadsBack cells (get_or path i 0) x) → Walk cells order (path ++ x ∷ []) (set marks x (Open (length (operands_at cells x))))
    enter new leads = record {
      size = length-set marks x m ∙ w.size;
      met = λ k left e. ⊎_elim
          (λ same. (length path, omega (arith, length_push path x), get_or_at path x [] 0 (length path) refl ∙ sym same))
          (λ apart. let (i, lt, at) = w.met k left (sym (unmarked marks x m k apart) ∙ e) in
          (i, omega (arith, length_push path x), get_or_append_left path (x ∷ []) 0 i lt ∙ at))
          (cases_eq k x);
      entered = λ i lt. ⊎_elim
          (λ (old, at). subst (λ z. Entered z) (sym at) (let (left, is, few, rest) = w.entered i old in
          (left, kept marks x m (get_or path i 0) New (Open left) new (λ e. new_not_open left (sym e)) is, few, λ q le under. keeps _ (rest q le under))))
          (λ (last, at). subst (λ z. Entered z) (sym at) (length (operands_at cells x), marked marks x m x within refl, omega arith, λ q le under. absurd (omega arith)))
          (at_push path x i lt);
      chain = λ i j less lt. ⊎_elim
          (λ (old, at). let (a, b) = w.chain i j less old in
          let front = get_or_append_left path (x ∷ []) 0 i (omega arith) in
          (subst (λ y. LeadsBack cells y (get_or (path ++ x ∷ []) j 0)) (sym front) (subst (LeadsBack cells (get_or path i 0)) (sym at) a), λ e. b (sym front ∙ e ∙ at)))
          (λ (last, at). let i_lt : i < length path = omega arith in
          let front = get_or_append_left path (x ∷ []) 0 i i_lt in (
            subst (λ y. LeadsBack cells y (get_or (path ++ x ∷ []) j 0)) (sym front) (subst (LeadsBack cells (get_or path i 0)) (sym at) (leads i i_lt)),
            λ e. let here = w.entered i i_lt in new_not_open here.0 (sym new ∙ ap (mark_at marks) (sym at ∙ sym e ∙ front) ∙ here.1),
          ))
          (at_push path x j lt);
      place = w.place;
      done = λ k e. w.done k (was marks x m k Done within (λ f. open_not_done _ (sym f)) e).0;
      listed = λ p lt. keeps _ (w.listed p lt);
      once = w.once;
      behind = λ p j lt reads. let (a, b) = w.behind p j lt reads in (keeps j a, b);
      opens = let n : count_by is_open (set marks x m) + 0 ≡ count_by is_open marks + 1 = subst (λ z. count_by is_open (set marks x m) + cond (is_open z) 1 0 ≡ count_by is_open marks + 1) new (recount marks x m is_open within) in
          omega (arith, length_push path x, w.opens);
      dones = let n : count_by is_done (set marks x m) + 0 ≡ count_by is_done marks + 0 = subst (λ z. count_by is_done (set marks x m) + cond (is_done z) 1 0 ≡ count_by is_done marks + 0) new (recount marks x m is_done within) in
          omega (arith, w.dones);
    }
      where
        m : Mark
        m = Open (length (operands_at cells x))

        keeps : (k : ℕ) → mark_at marks k ≡ Done → mark_at (set marks x m) k ≡ Done
        keeps k e = kept marks x m k New Done new (λ f. new_not_done (sym f)) e

        Entered : ℕ → Type 0
        Entered y = (left : ℕ) × (mark_at (set marks x m) y ≡ Open left) × (left ≤ length (operands_at cells y)) × ((q : ℕ) → left ≤ q → q < length (operands_at cells y) → mark_at (set marks x m) (get_or (operands_at cells y) q 0) ≡ Done)

    -- the operand before the last that is done is done too
    pub pass : (left : ℕ) → mark_at marks x ≡ Open (left + 1) → mark_at marks (get_or (operands_at cells x) left 0) ≡ Done → Walk cells order path (set marks x (Open left))
    pass left opened operand = record {
      size = length-set marks x m ∙ w.size;
      met = λ k l e. ⊎_elim
          (λ same. let (i, lt, at) = w.met x (left + 1) opened in (i, lt, at ∙ sym same))
          (λ apart. w.met k l (sym (unmarked marks x m k apart) ∙ e))
          (cases_eq k x);
      entered = λ i lt. let (n, is, few, rest) = w.entered i lt in ⊎_elim
          (λ same.
          let size : n ≡ left + 1 = same_open n (left + 1) (sym is ∙ ap (mark_at marks) same ∙ opened) in (
            left,
            marked marks x m (get_or path i 0) within same,
            omega arith,
            λ q le under. ⊎_elim
                (λ e. keeps _ (subst (λ z. mark_at marks (get_or (operands_at cells (get_or path i 0)) z 0) ≡ Done) (sym e) (subst (λ z. mark_at marks (get_or (operands_at cells z) left 0) ≡ Done) (sym same) operand)))
                (λ ne. keeps _ (rest q (omega arith) under))
                (cases_eq q left),
          ))
          (λ apart. (n, unmarked marks x m (get_or path i 0) apart ∙ is, few, λ q le under. keeps _ (rest q le under)))
          (cases_eq (get_or path i 0) x);
      chain = w.chain;
      place = w.place;
      done = λ k e. w.done k (was marks x m k Done within (λ f. open_not_done left (sym f)) e).0;
      listed = λ p lt. keeps _ (w.listed p lt);
      once = w.once;
      behind = λ p j lt reads. let (a, b) = w.behind p j lt reads in (keeps j a, b);
      opens = let n : count_by is_open (set marks x m) + 1 ≡ count_by is_open marks + 1 = subst (λ z. count_by is_open (set marks x m) + cond (is_open z) 1 0 ≡ count_by is_open marks + 1) opened (recount marks x m is_open within) in
          omega (arith, w.opens);
      dones = let n : count_by is_done (set marks x m) + 0 ≡ count_by is_done marks + 0 = subst (λ z. count_by is_done (set marks x m) + cond (is_done z) 1 0 ≡ count_by is_done marks + 0) opened (recount marks x m is_done within) in
          omega (arith, w.dones);
    }
      where
        m : Mark
        m = Open left

        keeps : (k : ℕ) → mark_at marks k ≡ Done → mark_at (set marks x m) k ≡ Done
        keeps k e = kept marks x m k (Open (left + 1)) Done opened (λ f. open_not_done (left + 1) (sym f)) e

  -- all operands of the last net are done, and so is it
  pub leave : (order held : List ℕ) (marks : List Mark) (x : ℕ) → Walk cells order (held ++ x ∷ []) marks → x < length marks → mark_at marks x ≡ Open 0 → Walk cells (order ++ x ∷ []) held (set marks x Done)
  leave order held marks x w within opened = record {
    size = length-set marks x Done ∙ w.size;
    met = λ k left e.
        let (before, apart) = was marks x Done k (Open left) within (open_not_done left) e in
        let (i, lt, at) = w.met k left before in
        ⊎_elim (λ (old, same). (i, old, sym same ∙ at)) (λ (last, same). absurd (apart (sym at ∙ same))) (at_push held x i lt);
    entered = λ i lt.
        let front = get_or_append_left held (x ∷ []) 0 i lt in
        let (left, is, few, rest) = subst (λ z. Entered z) front (w.entered i (omega (arith, length_push held x))) in
        (left, unmarked marks x Done (get_or held i 0) (λ same. (w.chain i (length held) lt (omega (arith, length_push held x))).1 (front ∙ same ∙ sym last)) ∙ is, few, λ q le under. keeps _ (rest q le under));
    chain = λ i j less lt.
        let (a, b) = w.chain i j less (omega (arith, length_push held x)) in
        let front = get_or_append_left held (x ∷ []) 0 i (omega arith) in
        let back = get_or_append_left held (x ∷ []) 0 j lt in
        (subst (λ y. LeadsBack cells y (get_or held j 0)) front (subst (LeadsBack cells (get_or (held ++ x ∷ []) i 0)) back a), λ e. b (front ∙ e ∙ sym back));
    place = place;
    done = λ k e. ⊎_elim
        (λ same. (subst (λ z. z < length (order ++ x ∷ [])) (sym (place_same k same)) (omega (arith, length_push order x)), ap (λ z. get_or (order ++ x ∷ []) z 0) (place_same k same) ∙ get_or_at order x [] 0 (length order) refl ∙ sym same))
        (λ apart.
        let (lt, at) = w.done k (sym (unmarked marks x Done k apart) ∙ e) in
        (subst (λ z. z < length (order ++ x ∷ [])) (sym (place_other k apart)) (omega (arith, length_push order x)), ap (λ z. get_or (order ++ x ∷ []) z 0) (place_other k apart) ∙ get_or_append_left order (x ∷ []) 0 (w.place k) lt ∙ at))
        (cases_eq k x);
    listed = λ p lt. ⊎_elim
        (λ (old, at). subst (λ z. mark_at (set marks x Done) z ≡ Done) (sym at) (keeps _ (w.listed p old)))
        (λ (new, at). marked marks x Done _ within at)
        (at_push order x p lt);
    once = λ p lt. ⊎_elim
        (λ (old, at). ap place at ∙ place_other (get_or order p 0) (done_other _ (w.listed p old)) ∙ w.once p old)
        (λ (new, at). place_same _ at ∙ sym new)
        (at_push order x p lt);
    behind = λ p j lt reads. ⊎_elim
        (λ (old, at).
        let (a, b) = w.behind p j old (subst (λ z. ReadsIn cells z j) at reads) in
        (keeps j a, subst (λ z. z < p) (sym (place_other j (done_other j a))) b))
        (λ (new, at).
        let is = read_done j (subst (λ z. ReadsIn cells z j) at reads) in
        (keeps j is, subst (λ z. z < p) (sym (place_other j (done_other j is))) (subst (λ z. w.place j < z) (sym new) (w.done j is).0)))
        (at_push order x p lt);
    opens = let n : count_by is_open (set marks x Done) + 1 ≡ count_by is_open marks + 0 = subst (λ z. count_by is_open (set marks x Done) + cond (is_open z) 1 0 ≡ count_by is_open marks + 0) opened (recount marks x Done is_open within) in
        omega (arith, length_push held x, w.opens);
    dones = let n : count_by is_done (set marks x Done) + 0 ≡ count_by is_done marks + 1 = subst (λ z. count_by is_done (set marks x Done) + cond (is_done z) 1 0 ≡ count_by is_done marks + 1) opened (recount marks x Done is_done within) in
        omega (arith, length_push order x, w.dones);
  }
    where
      last : get_or (held ++ x ∷ []) (length held) 0 ≡ x
      last = get_or_at held x [] 0 (length held) refl

      Entered : ℕ → Type 0
      Entered y = (left : ℕ) × (mark_at marks y ≡ Open left) × (left ≤ length (operands_at cells y)) × ((q : ℕ) → left ≤ q → q < length (operands_at cells y) → mark_at marks (get_or (operands_at cells y) q 0) ≡ Done)

      keeps : (k : ℕ) → mark_at marks k ≡ Done → mark_at (set marks x Done) k ≡ Done
      keeps k e = kept marks x Done k (Open 0) Done opened (λ f. open_not_done 0 (sym f)) e

      done_other : (k : ℕ) → mark_at marks k ≡ Done → k ≡ x → ⊥
      done_other k is same = open_not_done 0 (sym opened ∙ ap (mark_at marks) (sym same) ∙ is)

      place : ℕ → ℕ
      place k = cond (eqb k x) (length order) (w.place k)

      place_same : (k : ℕ) → k ≡ x → place k ≡ length order
      place_same k same = cond-true (eqb k x) (length order) (w.place k) (eq-eqb k x same)

      place_other : (k : ℕ) → (k ≡ x → ⊥) → place k ≡ w.place k
      place_other k apart = cond-false (eqb k x) (length order) (w.place k) (ne_eqb k x apart)

      read_done : (j : ℕ) → ReadsIn cells x j → mark_at marks j ≡ Done
      read_done j (q, under, at) =
          let (left, is, few, rest) = subst (λ z. Entered z) last (w.entered (length held) (omega (arith, length_push held x))) in
          let none : left ≡ 0 = same_open left 0 (sym is ∙ opened) in
          subst (λ z. mark_at marks z ≡ Done) at (rest q (omega arith) under)

  -- an operand of the last net that is open closes a circle behind the path's first net
  pub circle : (order held : List ℕ) (marks : List Mark) (x j left : ℕ) → Walk cells order (held ++ x ∷ []) marks → ReadsIn cells x j → mark_at marks j ≡ Open left → DependsOnCircle cells (get_or (held ++ x ∷ []) 0 0)
  circle order held marks x j left w reads opened =
      let (i, lt, at) = w.met j left opened in
      (j, path_leads order held marks x j w reads 0 (omega (arith, length_push held x)), subst (λ z. LeadsBack cells z j) at (path_leads order held marks x j w reads i lt))

  -- what a done net leads back to is done before it
  leads_done : (order path : List ℕ) (marks : List Mark) (w : Walk cells order path marks) (k j : ℕ) → mark_at marks k ≡ Done → LeadsBack cells k j → (mark_at marks j ≡ Done) × (w.place j < w.place k)
  leads_done order path marks w k j is (step reads) =
      let (lt, at) = w.done k is in w.behind (w.place k) j lt (subst (λ z. ReadsIn cells z j) (sym at) reads)
  leads_done order path marks w k j is (further {i} leads reads) =
      let (done, before) = leads_done order path marks w k i is leads in
      let (lt, at) = w.done i done in
      let (last, less) = w.behind (w.place i) j lt (subst (λ z. ReadsIn cells z j) (sym at) reads) in
      (last, omega arith)

  pub done_free : (order path : List ℕ) (marks : List Mark) → Walk cells order path marks → (k : ℕ) → mark_at marks k ≡ Done → DependsOnCircle cells k → ⊥
  done_free order path marks w k is (j, leads, circle) =
      let (done, before) = leads_done order path marks w k j is leads in
      omega (arith, (leads_done order path marks w j j done circle).1)

  count_front : (marks : List Mark) → ((k : ℕ) → k < length marks → mark_at marks k ≡ Done) → (n : ℕ) → n ≤ length marks → count_by is_done (take n marks) ≡ n
  count_front marks all zero le = refl
  count_front marks all (suc n) le =
      let more : count_by is_done (take (n + 1) marks) ≡ count_by is_done (take n marks) + 1 = count_by_more_yes is_done marks n New (omega arith) (ap is_done (all n (omega arith))) in
      let next : suc n ≡ n + 1 = omega arith in
      ap (λ z. count_by is_done (take z marks)) next ∙ more ∙ ap (λ z. z + 1) (count_front marks all n (omega arith)) ∙ sym next

  -- every net is done: an order
  pub all_done : (order path : List ℕ) (marks : List Mark) → Walk cells order path marks → ((k : ℕ) → k < length marks → mark_at marks k ≡ Done) → Sorted cells order
  all_done order path marks w all = record {
    size = w.dones ∙ ap (count_by is_done) (sym (take_all (length marks) marks (omega arith))) ∙ count_front marks all (length marks) (omega arith) ∙ w.size;
    nets = λ p lt. subst (λ z. get_or order p 0 < z) w.size (within_mark marks _ Done new_not_done (w.listed p lt));
    place = w.place;
    placed = λ k lt. w.done k (all k (omega (arith, w.size)));
    once = w.once;
    behind = λ p j lt reads. let (a, b) = w.behind p j lt reads in (subst (λ z. j < z) w.size (within_mark marks j Done new_not_done a), b);
  }

  -- there is room for one net more
  pub room_left : (order path : List ℕ) (marks : List Mark) (x : ℕ) → Walk cells order path marks → x < length marks → mark_at marks x ≡ New → length path < length cells
  room_left order path marks x w within new =
      let n : count_by is_open (set marks x (Open 0)) + 0 ≡ count_by is_open marks + 1 = subst (λ z. count_by is_open (set marks x (Open 0)) + cond (is_open z) 1 0 ≡ count_by is_open marks + 1) new (recount marks x (Open 0) is_open within) in
      omega (arith, w.opens, w.size, count_by-le-length is_open (set marks x (Open 0)), length-set marks x (Open 0))

  pub order_left : (order path : List ℕ) (marks : List Mark) (x left : ℕ) → Walk cells order path marks → x < length marks → mark_at marks x ≡ Open left → length order < length cells
  order_left order path marks x left w within opened =
      let n : count_by is_done (set marks x Done) + 0 ≡ count_by is_done marks + 1 = subst (λ z. count_by is_done (set marks x Done) + cond (is_done z) 1 0 ≡ count_by is_done marks + 1) opened (recount marks x Done is_done within) in
      omega (arith, w.dones, w.size, count_by-le-length is_done (set marks x Done), length-set marks x Done)
