-- What a survey leaves, from what its parts leave.
use Rattle.std.proofs.Common.{◌≡◌, ℕ, ◌*◌, ◌≤◌, List, ◌++◌, length, take, drop, Some, Ok, Err, Result, sym, refl, ap, ◌∙◌, subst, inl, inr, arith}
use Rattle.std.proofs.lemmas.Bool.{cases_lt}
use Rattle.std.proofs.lemmas.List.{take-append-drop, take_at, drop_at, length-take-le}
use Rattle.maps.specs.declared.refusals.ListRefusal.{ListRefusal}
use Rattle.maps.specs.declared.refusals.ListRefusal.TheVariants as list
use Rattle.maps.specs.Links.{Link, Meaning}
use Rattle.maps.specs.LinkChecks.{FirstBadLink, AllLinksGood, EndsGood, GoodLinks}
use Rattle.maps.specs.Chains.{Chains}
use Rattle.maps.specs.Listing.{Lent, TooLarge, TooShort, ReadList, ReadInto, Listed}
use Rattle.maps.specs.Refusals.{list_number, list_place}
use Rattle.maps.proofs.Good.{links_good}
use Rattle.survey.specs.declared.refusals.SurveyRefusal.{SurveyRefusal}
use Rattle.survey.specs.Refusals.{survey_number, survey_place, from_list, Refused}
use Rattle.survey.specs.Outcome as out
use Rattle.survey.specs.Outcome.{DenseOrOrdered, Short}
use Rattle.survey.specs.Parts.{Parts}
use Rattle.survey.proofs.Peeling.{ordering_not_dense}
use Rattle.survey.proofs.Cells.{one_cell, one_colour}
use Rattle.survey.proofs.Rings.{no_ring}

-- the check of the list, where its size and the memory are no fault

size_fits : {n m : ℕ} → 1 ≤ n → n ≤ 4096 → m ≤ 32768 → TooLarge n m → ⊥
size_fits low high few (inl x) = omega arith
size_fits low high few (inr (inl x)) = omega arith
size_fits low high few (inr (inr x)) = omega arith

enough : {n m : ℕ} (lent : Lent) → n ≤ length lent.marks → m ≤ length lent.links → n ≤ length lent.head → m ≤ length lent.next → TooShort n m lent → ⊥
enough lent ha hb hc hd (inl l) = omega arith
enough lent ha hb hc hd (inr (inl l)) = omega arith
enough lent ha hb hc hd (inr (inr (inl l))) = omega arith
enough lent ha hb hc hd (inr (inr (inr l))) = omega arith

-- what memory that suffices has room for
pub room_is : (n k : ℕ) (lent : out.Lent) → (Short n k lent → ⊥) → (n ≤ length lent.order) × (n * k ≤ length lent.table) × (n ≤ length lent.members) × (n ≤ length lent.marks)
room_is n k lent short = (
  elim (cases_lt (length lent.order) n) [ inl x ↦ absurd (short (inl x)) | inr x ↦ x ],
  elim (cases_lt (length lent.table) (n * k)) [ inl x ↦ absurd (short (inr (inl x))) | inr x ↦ x ],
  elim (cases_lt (length lent.members) n) [ inl x ↦ absurd (short (inr (inr (inl x)))) | inr x ↦ x ],
  elim (cases_lt (length lent.marks) n) [ inl x ↦ absurd (short (inr (inr (inr x)))) | inr x ↦ x ],
)

pub list_read : (k : ℕ) (map : Meaning) (lent left : Lent) (r : Result (Unit {0}) ListRefusal) →
    (k ≤ 8) × (1 ≤ map.spaces) × (map.spaces ≤ 4096) × (length map.links ≤ 32768) →
    length lent.links ≡ 32768 → length lent.head ≡ 4096 → length lent.next ≡ 32768 →
    map.spaces ≤ length lent.marks → Listed map lent r left → ReadInto map lent r left
list_read k map lent left r limits copy heads nexts marks h =
    elim h [
      | inl x ↦ absurd (size_fits limits.1 limits.2 limits.3 x.0)
      | inr (_, inl x) ↦ absurd (enough lent marks (omega (arith, limits.3)) (omega (arith, limits.2)) (omega (arith, limits.3)) x.0)
      | inr (_, inr (_, x)) ↦ x
    ]

same_number : (e : ListRefusal) → survey_number (from_list e) ≡ list_number e
same_number list.SizeOutOfRange = refl
same_number list.ShortMemory = refl
same_number (list.EndOutOfRange place) = refl
same_number (list.EqualEnds place) = refl
same_number (list.RepeatedLink place) = refl

same_place : (e : ListRefusal) → survey_place (from_list e) ≡ list_place e
same_place list.SizeOutOfRange = refl
same_place list.ShortMemory = refl
same_place (list.EndOutOfRange place) = refl
same_place (list.EqualEnds place) = refl
same_place (list.RepeatedLink place) = refl

pub list_refused : {n : ℕ} {links copy : List Link} {head : List ℕ} {next : List Link} (e : ListRefusal) → ReadList n links copy head next (Err e) →
    (p : ℕ) × (number : ℕ) × FirstBadLink n links p number × Refused (Err (from_list e)) number (Some p)
list_refused e h =
    elim h [
      | inl (p, number, bad, said) ↦ (p, number, bad, (same_number e ∙ said.0, same_place e ∙ said.1))
      | inr (_, not_refused, _, _) ↦ absurd not_refused
    ]

pub list_accepted : {n : ℕ} {links copy : List Link} {head : List ℕ} {next : List Link} → ReadList n links copy head next (Ok tt) →
    AllLinksGood n links × (copy ≡ links) × Chains n links head next 0
list_accepted h =
    elim h [
      | inl (_, _, _, refused) ↦ absurd refused
      | inr (good, _, same, chains) ↦ (good, same, chains)
    ]

-- the survey of faultless links, in parts of the memory lent

whole : (n : ℕ) (xs ys : List ℕ) → take n xs ≡ take n ys → drop n xs ≡ drop n ys → xs ≡ ys
whole n xs ys front past = sym (take-append-drop n xs) ∙ (ap (λ (t : List ℕ). t ++ drop n xs) front ∙ (ap (λ (t : List ℕ). take n ys ++ t) past ∙ take-append-drop n ys))

pub parts_ended : (n k : ℕ) (links : List Link) → GoodLinks n links → n ≤ 65535 → (lent left : out.Lent) →
    drop n left.order ≡ drop n lent.order → drop (n * k) left.table ≡ drop (n * k) lent.table → drop n left.members ≡ drop n lent.members →
    (r : Result (Unit {0}) SurveyRefusal) → Parts n k links (take n left.order) (take (n * k) left.table) (take n lent.members) (take n left.members) r →
    DenseOrOrdered n k links lent r left
parts_ended n k links g small lent left o t s (Ok x) (ordering, table, same) =
    let cells = one_cell k n links g small (take n left.order) (take (n * k) left.table) ordering table in
    inr (
      λ dense. ordering_not_dense k n links g (take n left.order) ordering dense,
      (
        tt,
        record {
          order = ordering;
          table = table;
          one_cell = cells.0;
          cells = cells.1;
          colours = one_colour k n links g small (take n left.order) (take (n * k) left.table) ordering table;
          no_ring = no_ring k n links small (take n left.order) (take (n * k) left.table) table;
          past_order = o;
          past_table = t;
          members = whole n left.members lent.members same s;
        },
      ),
    )
parts_ended n k links g small lent left o t s (Err e) (dense, set, order, table) =
    inl (
      (set.0, set.1.0),
      ((ap survey_number dense, ap survey_place dense), record { set = set; order = order; table = table; past_order = o; past_table = t; past_set = s }),
    )

-- the parts of the working memory that hold faultless links and their chains; a and b are the lengths of the parts
pub parts_chained : {n a b : ℕ} {list : List Link} (copy next : List Link) (head : List ℕ) →
    a ≡ n → b ≡ length list → n ≤ length head → length list ≤ length next →
    AllLinksGood n list × (take (length list) copy ≡ list) × Chains n list (take n head) (take (length list) next) 0 →
    EndsGood (length (take a head)) (take b copy)
    × Chains (length (take a head)) (take b copy) (take a head) (take b next) 0
    × (length (take b next) ≡ length (take b copy))
parts_chained {n} {a} {b} {list} copy next head ea eb lh ln (good, same, chains) =
    let wide : length (take a head) ≡ n = length-take-le a head (omega arith) ∙ ea in
    let copied : take b copy ≡ list = ap (λ (x : ℕ). take x copy) eb ∙ same in
    let heads : take a head ≡ take n head = ap (λ (x : ℕ). take x head) ea in
    let nexts : take b next ≡ take (length list) next = ap (λ (x : ℕ). take x next) eb in (
      rw (wide, copied) (links_good n list good).ends,
      rw (wide, copied, heads, nexts) chains,
      length-take-le b next (omega arith) ∙ (eb ∙ sym (ap length copied)),
    )

pub parts_good : {n a b : ℕ} {list : List Link} (copy : List Link) (order : List ℕ) → a ≡ n → b ≡ length list → n ≤ length order → AllLinksGood n list → take (length list) copy ≡ list →
    GoodLinks (length (take a order)) (take b copy)
parts_good {n} {a} {b} {list} copy order ea eb lo good same =
    let wide : length (take a order) ≡ n = length-take-le a order (omega arith) ∙ ea in
    let copied : take b copy ≡ list = ap (λ (x : ℕ). take x copy) eb ∙ same in
    rw (wide, copied) (links_good n list good)

-- what it leaves in the whole memory
pub parts_left : (n a b d k : ℕ) (list copy : List Link) (order table members marks marks' order' table' members' : List ℕ) (r : Result (Unit {0}) SurveyRefusal) →
    a ≡ n → b ≡ length list → d ≡ n * k → n ≤ 4096 →
    n ≤ length order → n * k ≤ length table → n ≤ length members →
    length order' ≡ length (take a order) → length table' ≡ length (take d table) → length members' ≡ length (take a members) →
    AllLinksGood n list → take (length list) copy ≡ list →
    Parts (length (take a order)) k (take b copy) order' table' (take a members) members' r →
    DenseOrOrdered n k list (record { order = order; table = table; members = members; marks = marks }) r
    (record { order = order' ++ drop a order; table = table' ++ drop d table; members = members' ++ drop a members; marks = marks' })
parts_left n a b d k list copy order table members marks marks' order' table' members' r ea eb ed few lo lt lm ko kt km good same h =
    let wide : length (take a order) ≡ n = length-take-le a order (omega arith) ∙ ea in
    let copied : take b copy ≡ list = ap (λ (x : ℕ). take x copy) eb ∙ same in
    let o : length order' ≡ n = ko ∙ wide in
    let t : length table' ≡ n * k = kt ∙ (length-take-le d table (omega arith) ∙ ed) in
    let s : length members' ≡ n = km ∙ (length-take-le a members (omega arith) ∙ ea) in
    parts_ended n k list (links_good n list good) (omega arith) _ _
    (drop_at order' (drop a order) n o ∙ ap (λ (x : ℕ). drop x order) ea)
    (drop_at table' (drop d table) (n * k) t ∙ ap (λ (x : ℕ). drop x table) ed)
    (drop_at members' (drop a members) n s ∙ ap (λ (x : ℕ). drop x members) ea)
    r
    (rw (take_at order' (drop a order) n o, take_at table' (drop d table) (n * k) t, take_at members' (drop a members) n s)
    (subst (λ (x : List ℕ). Parts n k list order' table' x members' r) (ap (λ (x : ℕ). take x members) ea)
    (subst (λ (x : List Link). Parts n k x order' table' (take a members) members' r) copied
    (subst (λ (x : ℕ). Parts x k (take b copy) order' table' (take a members) members' r) wide h))))
