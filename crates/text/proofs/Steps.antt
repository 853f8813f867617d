-- The steps of the cursor.
use Rattle.std.proofs.Common.{◌≡◌, ℕ, suc, ◌+◌, ◌-◌, ◌<◌, ◌≤◌, Bool, true, false, cond, List, [], ◌∷◌, length, get_or, take, drop, sym, refl, ap, ◌∙◌, ⊎_elim, arith}
use Rattle.std.specs.List.{prefix_len}
use Rattle.std.proofs.lemmas.List.{drop_more, drop_all, drop-drop, take-append-drop, get_or-drop, length-drop, length-take, drop-take, take-take, nil_from_length}
use Rattle.std.proofs.lemmas.List.Folds.{length-prefix_len}
use Rattle.std.proofs.lemmas.List.Sums.{prefix_len_stops}
use Rattle.std.proofs.lemmas.Bool.{and_from, ne_eqb, cases_lt}
use Rattle.grammar.specs.Grammar.{is_blank_byte, is_name_character, every, name, sign}
use Rattle.grammar.specs.Scan.{scan, starts_name}
use Rattle.grammar.proofs.Pieces.{scan_blank, scan_sign, name_first}

-- the bytes that stand first and pass a test, and what is behind them
front : (b : ℕ) (bs : List ℕ) (n : ℕ) → (take (1 + n) (b ∷ bs) ≡ b ∷ take n bs) × (drop (1 + n) (b ∷ bs) ≡ drop n bs)
front b bs n = let e : 1 + n ≡ suc n = omega arith in (ap (λ (k : ℕ). take k (b ∷ bs)) e, ap (λ (k : ℕ). drop k (b ∷ bs)) e)

-- the blanks that stand first say nothing
skips_first : (s : List ℕ) → scan (drop (prefix_len is_blank_byte s) s) ≡ scan s
skips_first [] = refl
skips_first (b ∷ bs) = at (is_blank_byte b) refl (skips_first bs)
  where
    at : (t : Bool) → is_blank_byte b ≡ t → scan (drop (prefix_len is_blank_byte bs) bs) ≡ scan bs → scan (drop (cond t (1 + prefix_len is_blank_byte bs) 0) (b ∷ bs)) ≡ scan (b ∷ bs)
    at true e ih = ap scan (front b bs (prefix_len is_blank_byte bs)).1 ∙ ih ∙ sym (scan_blank b bs e)
    at false e ih = refl

front_passes : (p : ℕ → Bool) (s : List ℕ) → every p (take (prefix_len p s) s) ≡ true
front_passes p [] = refl
front_passes p (b ∷ bs) = at (p b) refl (front_passes p bs)
  where
    at : (t : Bool) → p b ≡ t → every p (take (prefix_len p bs) bs) ≡ true → every p (take (cond t (1 + prefix_len p bs) 0) (b ∷ bs)) ≡ true
    at true e ih = ap (every p) (front b bs (prefix_len p bs)).0 ∙ and_from (p b) (every p (take (prefix_len p bs) bs)) e ih
    at false e ih = refl

stops_first : (s : List ℕ) → starts_name (drop (prefix_len is_name_character s) s) ≡ false
stops_first [] = refl
stops_first (b ∷ bs) = at (is_name_character b) refl (stops_first bs)
  where
    at : (t : Bool) → is_name_character b ≡ t → starts_name (drop (prefix_len is_name_character bs) bs) ≡ false → starts_name (drop (cond t (1 + prefix_len is_name_character bs) 0) (b ∷ bs)) ≡ false
    at true e ih = ap starts_name (front b bs (prefix_len is_name_character bs)).1 ∙ ih
    at false e ih = e

-- the bytes of a text that pass a test, from a place on up to an end
module _ (p : ℕ → Bool) (text : List ℕ) (at end : ℕ) (e : end ≡ at + prefix_len p (drop at text)) where
  pub drop_passed : drop (prefix_len p (drop at text)) (drop at text) ≡ drop end text
  drop_passed = drop-drop (prefix_len p (drop at text)) at text ∙ ap (λ (i : ℕ). drop i text) (sym e)

  pub stops_at : end < length text → p (get_or text end 0) ≡ false
  stops_at h =
      let n : prefix_len p (drop at text) < length (drop at text) = simp length-drop (omega (arith, e, h)) in
      ap p (ap (λ (i : ℕ). get_or text i 0) e ∙ sym (get_or-drop at text (prefix_len p (drop at text)) 0)) ∙ prefix_len_stops p (drop at text) 0 n

pub skipped : (text : List ℕ) (at start : ℕ) → start ≡ at + prefix_len is_blank_byte (drop at text) → scan (drop at text) ≡ scan (drop start text)
skipped text at start e = sym (skips_first (drop at text)) ∙ ap scan (drop_passed is_blank_byte text at start e)

pub ended : (s : List ℕ) (i : ℕ) → length s ≤ i → scan (drop i s) ≡ []
ended s i h = ap scan (drop_all i s h)

pub commented : (s : List ℕ) (i : ℕ) → i < length s → get_or s i 0 ≡ 35 → scan (drop i s) ≡ []
commented s i h e = ap scan (drop_more s i 0 h) ∙ ap (λ (b : ℕ). scan (b ∷ drop (i + 1) s)) e

pub blank_more : (s : List ℕ) (i : ℕ) → i < length s → is_blank_byte (get_or s i 0) ≡ true → scan (drop (i + 1) s) ≡ scan (drop i s)
blank_more s i h e = sym (ap scan (drop_more s i 0 h) ∙ scan_blank (get_or s i 0) (drop (i + 1) s) e)

pub sign_at : (s : List ℕ) (i : ℕ) → i < length s → is_name_character (get_or s i 0) ≡ false → is_blank_byte (get_or s i 0) ≡ false → (get_or s i 0 ≡ 35 → ⊥) → scan (drop i s) ≡ sign (get_or s i 0) ∷ scan (drop (i + 1) s)
sign_at s i h n b c = ap scan (drop_more s i 0 h) ∙ scan_sign (get_or s i 0) (drop (i + 1) s) (record { named = n; blanked = b; commented = ne_eqb (get_or s i 0) 35 c })

-- the same behind the blanks that stand first
pub sign_found : (text : List ℕ) (at i : ℕ) → i < length text → i ≡ at + prefix_len is_blank_byte (drop at text) → i ≡ i + prefix_len is_name_character (drop i text) → (get_or text i 0 ≡ 35 → ⊥) → scan (drop i text) ≡ sign (get_or text i 0) ∷ scan (drop (i + 1) text)
sign_found text at i h b n c = sign_at text i h (stops_at is_name_character text i i n h) (stops_at is_blank_byte text at i b h) c

pub name_at : (text : List ℕ) (i e : ℕ) → e ≡ i + prefix_len is_name_character (drop i text) → (e ≡ i → ⊥) → scan (drop i text) ≡ name (take (e - i) (drop i text)) ∷ scan (drop e text)
name_at text i e q f =
    let s = drop i text in
    let n = prefix_len is_name_character s in
    let some : 0 < n = ⊎_elim (λ h. h) (λ h. absurd (f (omega (arith, q, h)))) (cases_lt 0 n) in
    let size : e - i ≡ n = omega (arith, q) in
    let front : scan s ≡ name (take n s) ∷ scan (drop n s) = ap scan (sym (take-append-drop n s)) ∙ name_first (take n s) (drop n s) (omega (arith, some, length-prefix_len is_name_character s), front_passes is_name_character s) (stops_first s) in
    front ∙ ap (λ (k : ℕ). name (take k s) ∷ scan (drop n s)) (sym size) ∙ ap (λ (t : List ℕ). name (take (e - i) s) ∷ scan t) (drop_passed is_name_character text i e q)

-- a front of the text, from a place on
pub drop-front : (text : List ℕ) (at end : ℕ) → at ≤ end → drop at (take end text) ≡ take (end - at) (drop at text)
drop-front text at end h =
    let k : end ≡ at + (end - at) = omega arith in
    ap (λ (n : ℕ). drop at (take n text)) k ∙ drop-take at (end - at) text

-- what stands in a front of the text stands in the text
pub stands_whole : (text b : List ℕ) (at end : ℕ) → take (length b) (drop at (take end text)) ≡ b → take (length b) (drop at text) ≡ b
stands_whole text b at end e = ⊎_elim before inside (cases_lt end at)
  where
    before : end < at → take (length b) (drop at text) ≡ b
    before h =
        let l : length (take end text) ≤ at = simp length-take (omega arith) in
        let d : drop at (take end text) ≡ [] = drop_all at (take end text) l in
        let n : length b ≡ 0 = omega (arith, ap length e, length-take (length b) (drop at (take end text)), ap length d) in
        let z : b ≡ [] = nil_from_length b n in
        ap (λ (x : List ℕ). take (length x) (drop at text)) z ∙ sym z

    inside : at ≤ end → take (length b) (drop at text) ≡ b
    inside h =
        let d = drop-front text at end h in
        let f : take (length b) (take (end - at) (drop at text)) ≡ b = ap (take (length b)) (sym d) ∙ e in
        let n : length b ≤ end - at = omega (arith, ap length f, length-take (length b) (take (end - at) (drop at text)), length-take (end - at) (drop at text)) in
        sym (take-take (length b) (end - at) (drop at text) n) ∙ f
