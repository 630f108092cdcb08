-- A table filled link by link.
use Rattle.std.proofs.Common.{◌≡◌, ℕ, zero, suc, ◌+◌, ◌-◌, ◌*◌, ◌<◌, ◌≤◌, Bool, true, false, cond, ◌&&◌, ◌||◌, eqb, ◌⊎◌, List, [], ◌∷◌, ◌++◌, map, length, get_or, take, drop, set, replicate, count_by, filter, sym, refl, ap, ◌∙◌, inl, inr, mul-le-mul_right, arith}
use lib.Seq.{take-set-lt}
use Rattle.std.specs.List.{AllByRecursion}
use Rattle.std.proofs.lemmas.List.{drop-set-lt, drop-set-add, take-set-le, length-set, length-append, length-map, length-replicate, map-append, append_assoc, append-nil, set_at, take-replicate, drop-replicate, get_or_append_left, get_or-append_right, get_or-replicate}
use Rattle.std.proofs.lemmas.List.Sums.{sum_by-cons, sum_by-append, length-filter}
use Rattle.std.proofs.lemmas.List.Elements.{filter-append}
use Rattle.std.proofs.ByRecursion.{All-get_or, All-map, all_kept_by, All-weaker}
use Rattle.std.proofs.lemmas.Bool.{cases_eq, cases_Bool, cases_lt, cases_order, eq-eqb, ne_eqb, cond-true, cond-false, and_left, and_right, and_from, or_from, or_left, or_right, lt-ltb, le-ltb}
use Rattle.std.proofs.lemmas.Bool.Decides.{nat_tests}
use Rattle.maps.specs.Links.{Link, same}
use Rattle.maps.specs.Sets.{Spaces}
use Rattle.maps.specs.Density.{joins_in, neighbours_in}
use Rattle.maps.specs.LinkChecks.{GoodLinks}
use Rattle.maps.specs.Chains.{other}
use Rattle.maps.specs.Reading.{row}
use Rattle.survey.specs.Orders.{times, place, before, Ordering}
use Rattle.survey.specs.Tables.{linked, cell, Table}
use Rattle.survey.specs.Filling.{earlier_ends, padded, Entered}
use Rattle.survey.proofs.Counts.{bit, count_yes, count_no}
use Rattle.survey.proofs.Cells.{row_cell}

pub entering_none : (k n : ℕ) (order : List ℕ) → Entered k n order [] (replicate (n * k) 65535)
entering_none k n order =
    record {
      long = length-replicate (n * k) 65535;
      rows = λ v l.
          let whole : k ≡ k - 0 = omega arith in
          ap (take k) (drop-replicate (v * k) (n * k) 65535) ∙ (take-replicate {X = ℕ} k (n * k - v * k) 65535 (omega (arith, mul-le-mul_right k l)) ∙ ap (λ (m : ℕ). replicate m 65535) whole);
    }

-- a write into a row

row_set : (k : ℕ) (table : List ℕ) (v j c : ℕ) → j < k → row k (set table (v * k + j) c) v ≡ set (row k table v) j c
row_set k table v j c l = rw (drop-set-add (v * k) table j c, take-set-lt k (drop (v * k) table) j c l)

row_else : (k : ℕ) (table : List ℕ) (v j c x : ℕ) → j < k → (x ≡ v → ⊥) → row k (set table (v * k + j) c) x ≡ row k table x
row_else k table v j c x l ne =
    elim (cases_order x v) [
      | inl q ↦ absurd (ne q)
      | inr (inl b) ↦
          let past : x * k + k ≤ v * k = omega (arith, mul-le-mul_right k b) in
          let at : v * k + j ≡ x * k + (v * k + j - x * k) = omega arith in
          let far : k ≤ v * k + j - x * k = omega arith in
          rw (at, drop-set-add (x * k) table (v * k + j - x * k) c, take-set-le k (drop (x * k) table) (v * k + j - x * k) c far)
      | inr (inr a) ↦ ap (take k) (drop-set-lt (x * k) table (v * k + j) c (omega (arith, mul-le-mul_right k a)))
    ]

-- a write into the first empty cell
padded_set : (k : ℕ) (cs : List ℕ) (c : ℕ) → length cs < k → set (padded k cs) (length cs) c ≡ padded k (cs ++ c ∷ [])
padded_set k cs c l =
    let more : k - length cs ≡ suc (k - length (cs ++ c ∷ [])) = omega (arith, length-append cs (c ∷ [])) in
    ap (λ (m : ℕ). set (cs ++ replicate m 65535) (length cs) c) more
    ∙ (set_at cs 65535 (replicate (k - length (cs ++ c ∷ [])) 65535) c (length cs) refl
    ∙ sym (append_assoc cs (c ∷ []) (replicate (k - length (cs ++ c ∷ [])) 65535)))

-- the neighbours before v, with one link more

kept_one : {X : Type 0} (p : X → Bool) (x : X) (b : Bool) → p x ≡ b → filter p (x ∷ []) ≡ cond b (x ∷ []) []
kept_one p x b e = ap (λ (t : Bool). cond t (x ∷ []) []) e

module _ (order : List ℕ) (v : ℕ) (links : List Link) (l : Link) where
  ends_more : (b : Bool) → joins_in (before order v) v l ≡ b → earlier_ends order v (links ++ l ∷ []) ≡ earlier_ends order v links ++ cond b (other v l ∷ []) []
  ends_more b e =
      ap (map (other v)) (filter-append (joins_in (before order v) v) links (l ∷ []) ∙ ap (λ (xs : List Link). filter (joins_in (before order v) v) links ++ xs) (kept_one (joins_in (before order v) v) l b e))
      ∙ (map-append (other v) (filter (joins_in (before order v) v) links) (cond b (l ∷ []) [])
      ∙ ap (λ (xs : List ℕ). earlier_ends order v links ++ xs) (one b))
    where
      one : (b : Bool) → map (other v) (cond b (l ∷ []) []) ≡ cond b (other v l ∷ []) []
      one true = refl
      one false = refl

pub ends_length : (order : List ℕ) (v : ℕ) (links : List Link) → length (earlier_ends order v links) ≡ neighbours_in links (before order v) v
ends_length order v links = length-map (filter (joins_in (before order v) v) links) (other v) ∙ length-filter (joins_in (before order v) v) links

module _ (order : List ℕ) (l : Link) (a b : ℕ) (is : (l ≡ (a, b)) ⊎ (l ≡ (b, a))) (apart : a ≡ b → ⊥) (up : place order a < place order b) where
  joins_here : joins_in (before order b) b l ≡ true
  joins_here =
      elim is [
        | inl e ↦ rw e (or_right _ _ (and_from _ _ (eq-eqb b b refl) (lt-ltb (place order a) (place order b) up)))
        | inr e ↦ rw e (or_left _ _ (and_from _ _ (eq-eqb b b refl) (lt-ltb (place order a) (place order b) up)))
      ]

  other_here : other b l ≡ a
  other_here =
      elim is [
        | inl e ↦ rw e (cond-false (eqb a b) b a (ne_eqb a b apart))
        | inr e ↦ rw e (cond-true (eqb b b) a b (eq-eqb b b refl))
      ]

  -- of the two, a has nobody before it in this link
  side : (v c : ℕ) → (v ≡ b → ⊥) → (c ≡ b) → (eqb a v && before order v c) ≡ false
  side v c ne e =
      elim (cases_eq a v) [
        | inl q ↦ and_right (eqb a v) _ (le-ltb (place order c) (place order v) (omega (arith, ap (place order) q, ap (place order) e)))
        | inr q ↦ and_left _ _ (ne_eqb a v q)
      ]

  joins_else : (v : ℕ) → (v ≡ b → ⊥) → joins_in (before order v) v l ≡ false
  joins_else v ne =
      elim is [
        | inl e ↦ rw e (or_from _ _ (side v b ne refl) (and_left _ _ (ne_eqb b v (λ q. ne (sym q)))))
        | inr e ↦ rw e (or_from _ _ (and_left _ _ (ne_eqb b v (λ q. ne (sym q)))) (side v b ne refl))
      ]

  module _ (links : List Link) where
    ends_here : earlier_ends order b (links ++ l ∷ []) ≡ earlier_ends order b links ++ a ∷ []
    ends_here = ends_more order b links l true joins_here ∙ ap (λ (x : ℕ). earlier_ends order b links ++ x ∷ []) other_here

    ends_else : (v : ℕ) → (v ≡ b → ⊥) → earlier_ends order v (links ++ l ∷ []) ≡ earlier_ends order v links
    ends_else v ne = ends_more order v links l false (joins_else v ne) ∙ append-nil (earlier_ends order v links)

    ends_count : (v : ℕ) → length (earlier_ends order v (links ++ l ∷ [])) ≡ length (earlier_ends order v links) + cond (eqb v b) 1 0
    ends_count v =
        elim (cases_eq v b) [
          | inl q ↦ rw q (omega (arith, ap length ends_here, length-append (earlier_ends order b links) (a ∷ []), ap bit (eq-eqb b b refl)))
          | inr ne ↦ omega (arith, ap length (ends_else v ne), ap bit (ne_eqb v b ne))
        ]

pub entering :
    (k n : ℕ) (order : List ℕ) (links : List Link) (table : List ℕ) → Entered k n order links table →
    (l : Link) (a b : ℕ) → ((l ≡ (a, b)) ⊎ (l ≡ (b, a))) → b < n → (a ≡ b → ⊥) → place order a < place order b →
    neighbours_in (links ++ l ∷ []) (before order b) b ≤ k →
    (length (earlier_ends order b links) < k) ×
    Entered k n order (links ++ l ∷ []) (set table (b * k + length (earlier_ends order b links)) a) ×
    ((v : ℕ) → length (earlier_ends order v (links ++ l ∷ [])) ≡ length (earlier_ends order v links) + cond (eqb v b) 1 0)
entering k n order links table en l a b is lb apart up few =
    let cs : List ℕ = earlier_ends order b links in
    let room : length cs < k = omega (arith, ends_length order b (links ++ l ∷ []), ap length (ends_here order l a b is apart up links), length-append cs (a ∷ [])) in (
      room,
      record {
        long = length-set table (b * k + length cs) a ∙ en.long;
        rows = λ v lv. elim (cases_eq v b) [
          | inl q ↦ rw q (row_set k table b (length cs) a room ∙ (ap (λ (xs : List ℕ). set xs (length cs) a) (en.rows b lb) ∙ (padded_set k cs a room ∙ ap (padded k) (sym (ends_here order l a b is apart up links)))))
          | inr ne ↦ row_else k table b (length cs) a v room ne ∙ (en.rows v lv ∙ ap (padded k) (sym (ends_else order l a b is apart up links v ne)))
        ];
      },
      ends_count order l a b is apart up links,
    )

-- counts of a row

count_map : {X Y : Type 0} (p : Y → Bool) (f : X → Y) (xs : List X) → count_by p (map f xs) ≡ count_by (λ x. p (f x)) xs
count_map p f [] = refl
count_map p f (x ∷ xs) = omega (arith, count_map p f xs, sum_by-cons (λ y. cond (p y) 1 0) (f x) (map f xs), sum_by-cons (λ y. cond (p (f y)) 1 0) x xs)

count_cond : {X : Type 0} (b : Bool) (q : X → Bool) (x : X) (ys : List X) → count_by q (cond b (x ∷ ys) ys) ≡ bit (b && q x) + count_by q ys
count_cond true q x ys = sum_by-cons (λ c. bit (q c)) x ys
count_cond false q x ys = omega arith

count_kept : {X : Type 0} (f q : X → Bool) (xs : List X) → count_by q (filter f xs) ≡ count_by (λ c. f c && q c) xs
count_kept f q [] = refl
count_kept f q (x ∷ xs) = omega (arith, count_cond (f x) q x (filter f xs), count_kept f q xs, sum_by-cons (λ c. bit (f c && q c)) x xs)

count_same : {X : Type 0} (P : X → Type 0) (p q : X → Bool) (xs : List X) → AllByRecursion P xs → ((x : X) → P x → p x ≡ q x) → count_by p xs ≡ count_by q xs
count_same P p q [] a h = refl
count_same P p q (x ∷ xs) a h = omega (arith, sum_by-cons (λ y. bit (p y)) x xs, sum_by-cons (λ y. bit (q y)) x xs, count_same P p q xs a.1 h, ap bit (h x a.0))

count_and : {X : Type 0} (p : X → Bool) (b : Bool) (xs : List X) → count_by (λ x. p x && b) xs ≡ cond b (count_by p xs) 0
count_and p true [] = refl
count_and p false [] = refl
count_and p b (x ∷ xs) =
    omega (arith, sum_by-cons (λ y. bit (p y && b)) x xs, count_and p b xs, sum_by-cons (λ y. bit (p y)) x xs, one (p x) b (count_by p xs), ap (λ (m : ℕ). cond b m 0) (sum_by-cons (λ y. bit (p y)) x xs))
  where
    one : (a b : Bool) (m : ℕ) → bit (a && b) + cond b m 0 ≡ cond b (bit a + m) 0
    one true true m = refl
    one false true m = refl
    one true false m = refl
    one false false m = refl

pub linked_count : (links : List Link) (a b : ℕ) → count_by (same (a, b)) links ≤ 1 → bit (linked links a b) ≡ count_by (same (a, b)) links
linked_count [] a b h = refl
linked_count (l ∷ links) a b h =
    elim (cases_Bool (same (a, b) l)) [
      | inl e ↦ omega (arith, count_yes (same (a, b)) l links e, ap bit (or_left (same (a, b) l) (linked links a b) e))
      | inr e ↦ omega (arith, count_no (same (a, b)) l links e, linked_count links a b (omega (arith, count_no (same (a, b)) l links e)), ap (λ (t : Bool). bit (t || linked links a b)) e)
    ]

-- a link of v and w, with w before v
one_link_of : (c d v w : ℕ) (bc bd bw : Bool) → (c ≡ d → ⊥) → (d ≡ w → bd ≡ bw) → (c ≡ w → bc ≡ bw) →
    (((eqb c v && bd) || (eqb d v && bc)) && eqb (cond (eqb c v) d c) w) ≡ (((eqb v c && eqb w d) || (eqb v d && eqb w c)) && bw)
one_link_of c d v w bc bd bw apart hd hc = grind (arith, nat_tests)

one_link : (before : Spaces) (v w : ℕ) (l : Link) → (l.0 ≡ l.1 → ⊥) → (joins_in before v l && eqb (other v l) w) ≡ (same (v, w) l && before w)
one_link before v w l apart = one_link_of l.0 l.1 v w (before l.0) (before l.1) (before w) apart (ap before) (ap before)

times_empty : (m w : ℕ) → (w ≡ 65535 → ⊥) → times w (replicate m 65535) ≡ 0
times_empty zero w ne = refl
times_empty (suc m) w ne = count_no (λ x. eqb x w) 65535 (replicate m 65535) (ne_eqb 65535 w (λ e. ne (sym e))) ∙ times_empty m w ne

both : (a b : Bool) → cond b (bit a) 0 ≡ bit (a && b)
both true true = refl
both true false = refl
both false true = refl
both false false = refl

module _ (n : ℕ) (links : List Link) (g : GoodLinks n links) (order : List ℕ) (v : ℕ) where
  -- how often w is among the neighbours before v
  ends_times : (w : ℕ) → times w (earlier_ends order v links) ≡ cond (linked links v w && before order v w) 1 0
  ends_times w =
      let J : Link → Bool = joins_in (before order v) v in
      count_map (λ x. eqb x w) (other v) (filter J links)
      ∙ (count_kept J (λ l. eqb (other v l) w) links
      ∙ (count_same (λ l. (l.0 < n) × (l.1 < n) × (l.0 ≡ l.1 → ⊥)) (λ l. J l && eqb (other v l) w) (λ l. same (v, w) l && before order v w) links g.ends (λ l o. one_link (before order v) v w l o.2)
      ∙ (count_and (same (v, w)) (before order v w) links
      ∙ (ap (λ (m : ℕ). cond (before order v w) m 0) (sym (linked_count links v w (g.once v w)))
      ∙ both (linked links v w) (before order v w)))))

  pub ends_in : AllByRecursion (λ c. c < n) (earlier_ends order v links)
  ends_in =
      All-map (λ c. c < n) (other v) (filter (joins_in (before order v) v) links)
      (all_kept_by (joins_in (before order v) v) (λ l. other v l < n) links
      (All-weaker (λ l. (l.0 < n) × (l.1 < n) × (l.0 ≡ l.1 → ⊥)) (λ l. other v l < n) (λ l o. grind (arith, o.0, o.1)) links g.ends))

pub entered_table :
    (k n : ℕ) (links : List Link) → GoodLinks n links → n ≤ 65535 → (order table : List ℕ) → Ordering k n links order →
    Entered k n order links table → Table k n links order table
entered_table k n links g small order table o en =
    record {
      long = en.long;
      first = λ v lv i j b lj e.
          let cs : List ℕ = earlier_ends order v links in
          let room : length cs ≤ k = omega (arith, ends_length order v links, o.few v lv) in
          let at : (x : ℕ) → x < k → cell k table v x ≡ get_or (padded k cs) x 65535 = λ x lx. sym (row_cell k table v x lx) ∙ ap (λ (xs : List ℕ). get_or xs x 65535) (en.rows v lv) in
          elim (cases_lt i (length cs)) [
            | inl l ↦ absurd (
                let c : cell k table v i ≡ get_or cs i 65535 = at i (omega arith) ∙ get_or_append_left cs (replicate (k - length cs) 65535) 65535 i l in
                omega (arith, All-get_or (λ c. c < n) cs i 65535 l (ends_in n links g order v)))
            | inr l ↦ at j lj ∙ (get_or-append_right cs (replicate (k - length cs) 65535) (length cs) j 65535 refl (omega arith) ∙ get_or-replicate (k - length cs) (j - length cs) 65535 65535 (omega arith))
          ];
      exact = λ v lv w ne.
          let cs : List ℕ = earlier_ends order v links in
          ap (times w) (en.rows v lv) ∙ (sum_by-append (λ x. bit (eqb x w)) cs (replicate (k - length cs) 65535) ∙ omega (arith, times_empty (k - length cs) w ne, ends_times n links g order v w));
    }
