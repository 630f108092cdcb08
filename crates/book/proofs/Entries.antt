-- Laws of lists of entries: which are on them, links that stand, lists apart, and one link struck out.
use Rattle.std.proofs.Common.{◌≡◌, ℕ, zero, suc, ◌+◌, ◌≤◌, Bool, true, false, cond, not, ◌⊎◌, List, [], ◌∷◌, ◌++◌, map, count_by, sym, refl, ap, ◌∙◌, subst, inl, inr, ⊎_elim, arith}
use Rattle.std.proofs.lemmas.List.Sums.{sum_by-cons}
use Rattle.std.proofs.lemmas.Bool.{cases_Bool, or_cases, or_parts, or_left, or_right, both_ways}
use Rattle.std.proofs.lemmas.Bool.Decides.{nat_tests}
use Rattle.std.specs.List.{ContainsAt}
use Rattle.maps.specs.LinkChecks.{AllLinksGood}
use Rattle.maps.specs.Links.{Link, same}
use Rattle.maps.proofs.Good.{links_good}
use Rattle.crowding.proofs.Pairs.{same_self, some_same_no}
use Rattle.crowding.proofs.Sums.{bit}
use Rattle.book.specs.Book.{Entry, links_of, stands_in, On, Apart, without, printed_entry}

-- links that are the same

pub same_sym : (l m : Link) → same l m ≡ same m l
same_sym l m = grind (arith, nat_tests)

pub same_trans : (l m n : Link) → same l m ≡ true → same m n ≡ same l n
same_trans l m n h = grind (arith, nat_tests)

-- an entry's link is this one
abbrev pub of_link : Link → Entry → Bool
of_link l e = same l e.link

-- counts

pub count_more : (p : Entry → Bool) (e : Entry) (es : List Entry) → count_by p (e ∷ es) ≡ cond (p e) 1 0 + count_by p es
count_more p e es = sum_by-cons (λ (x : Entry). bit (p x)) e es

count_like : (p q : Entry → Bool) → ((e : Entry) → p e ≡ q e) → (es : List Entry) → count_by p es ≡ count_by q es
count_like p q h [] = refl
count_like p q h (e ∷ es) = omega (arith, count_more p e es, count_more q e es, ap bit (h e), count_like p q h es)

-- the links of the entries, counted
pub count_links_lem : (l : Link) (es : List Entry) → count_by (same l) (links_of es) ≡ count_by (of_link l) es
count_links_lem l [] = refl
count_links_lem l (e ∷ es) = omega (arith, sum_by-cons (λ (m : Link). bit (same l m)) e.link (links_of es), count_more (of_link l) e es, count_links_lem l es)

pub none_stands : (l : Link) (es : List Entry) → stands_in l es ≡ false → count_by (of_link l) es ≡ 0
none_stands l [] h = refl
none_stands l (e ∷ es) h =
    let (here, rest) = or_parts (same l e.link) (stands_in l es) h in
    omega (arith, count_more (of_link l) e es, ap bit here, none_stands l es rest)

pub stands_none : (l : Link) (es : List Entry) → count_by (of_link l) es ≡ 0 → stands_in l es ≡ false
stands_none l es h = some_same_no l (links_of es) (count_links_lem l es ∙ h)

-- a link stands exactly if some entry has it

pub stands_on : (l : Link) (es : List Entry) (e : Entry) → On es e → same l e.link ≡ true → stands_in l es ≡ true
stands_on l [] e h t = elim h [ ]
stands_on l (x ∷ es) e (inl h) t = or_left (same l x.link) (stands_in l es) (ap (of_link l) h ∙ t)
stands_on l (x ∷ es) e (inr h) t = or_right (same l x.link) (stands_in l es) (stands_on l es e h t)

pub on_stands : (l : Link) (es : List Entry) → stands_in l es ≡ true → (e : Entry) × On es e × (same l e.link ≡ true)
on_stands l [] h = absurd (let z : ◌≡◌ {A = ℕ} 0 1 = cc in omega arith)
on_stands l (x ∷ es) h =
    elim (or_cases (same l x.link) (stands_in l es) h) [
      | inl t ↦ (x, inl refl, t)
      | inr t ↦ let (e, on, s) = on_stands l es t in (e, inr on, s)
    ]

pub on_not_stands : (l : Link) (es : List Entry) (e : Entry) → stands_in l es ≡ false → On es e → same l e.link ≡ false
on_not_stands l es e h on =
    elim (cases_Bool (same l e.link)) [
      | inl t ↦ absurd (both_ways (stands_in l es) h (stands_on l es e on t))
      | inr t ↦ t
    ]

-- lists on which no link has two entries

pub apart_none : Apart []
apart_none l = omega arith

pub apart_tail : (e : Entry) (es : List Entry) → Apart (e ∷ es) → Apart es
apart_tail e es h l = omega (arith, h l, count_more (of_link l) e es)

pub apart_head : (e : Entry) (es : List Entry) → Apart (e ∷ es) → stands_in e.link es ≡ false
apart_head e es h = stands_none e.link es (omega (arith, h e.link, count_more (of_link e.link) e es, ap bit (same_self e.link)))

pub apart_more : (e : Entry) (es : List Entry) → stands_in e.link es ≡ false → Apart es → Apart (e ∷ es)
apart_more e es new h l =
    elim (cases_Bool (same l e.link)) [
      | inl t ↦ omega (arith, count_more (of_link l) e es, ap bit t, none_stands e.link es new, count_like (of_link e.link) (of_link l) (λ x. same_trans l e.link x.link t) es)
      | inr t ↦ omega (arith, count_more (of_link l) e es, ap bit t, h l)
    ]

count_printed : (links : List Link) (width : ℕ) (l : Link) → count_by (of_link l) (map (printed_entry width) links) ≡ count_by (same l) links
count_printed [] width l = refl
count_printed (m ∷ links) width l =
    omega (arith, count_more (of_link l) (printed_entry width m) (map (printed_entry width) links), sum_by-cons (λ (x : Link). bit (same l x)) m links, count_printed links width l)

-- the entries of printed links
pub apart_printed : (width n : ℕ) (links : List Link) → AllLinksGood n links → Apart (map (printed_entry width) links)
apart_printed width n links good l = omega (arith, count_printed links width l, (links_good n links good).once l.0 l.1)

-- entries on two lists joined

pub on_append : (xs ys : List Entry) (e : Entry) → On (xs ++ ys) e → On xs e ⊎ On ys e
on_append [] ys e h = inr h
on_append (x ∷ xs) ys e (inl h) = inl (inl h)
on_append (x ∷ xs) ys e (inr h) = ⊎_elim (λ t. inl (inr t)) inr (on_append xs ys e h)

pub on_left : (xs ys : List Entry) (e : Entry) → On xs e → On (xs ++ ys) e
on_left [] ys e h = elim h [ ]
on_left (x ∷ xs) ys e (inl h) = inl h
on_left (x ∷ xs) ys e (inr h) = inr (on_left xs ys e h)

pub on_right : (xs ys : List Entry) (e : Entry) → On ys e → On (xs ++ ys) e
on_right [] ys e h = h
on_right (x ∷ xs) ys e h = inr (on_right xs ys e h)

-- printed links are entries, and those only

pub links_printed : (width : ℕ) (links : List Link) → links_of (map (printed_entry width) links) ≡ links
links_printed width [] = refl
links_printed width (l ∷ links) = ap (λ (t : List Link). l ∷ t) (links_printed width links)

pub on_printed : (width : ℕ) (links : List Link) (l : Link) → ContainsAt links l → On (map (printed_entry width) links) (printed_entry width l)
on_printed width [] l (k, in', at) = absurd (omega arith)
on_printed width (m ∷ links) l (zero, in', at) = inl (ap (printed_entry width) (at m))
on_printed width (m ∷ links) l (suc k, in', at) = inr (on_printed width links l (k, omega arith, at))

pub printed_on : (width : ℕ) (links : List Link) (e : Entry) → On (map (printed_entry width) links) e → (l : Link) × ContainsAt links l × (printed_entry width l ≡ e)
printed_on width [] e h = elim h [ ]
printed_on width (m ∷ links) e (inl h) = (m, (0, omega arith, λ d. refl), h)
printed_on width (m ∷ links) e (inr h) =
    let (l, (k, in', at), is) = printed_on width links e h in
    (l, (suc k, omega arith, at), is)

-- one link struck out

pub without_yes : (l : Link) (e : Entry) (es : List Entry) → same l e.link ≡ true → without l (e ∷ es) ≡ without l es
without_yes l e es t = ap (λ (b : Bool). cond (not b) (e ∷ without l es) (without l es)) t

pub without_no : (l : Link) (e : Entry) (es : List Entry) → same l e.link ≡ false → without l (e ∷ es) ≡ e ∷ without l es
without_no l e es t = ap (λ (b : Bool). cond (not b) (e ∷ without l es) (without l es)) t

pub without_none : (l : Link) (es : List Entry) → stands_in l es ≡ false → without l es ≡ es
without_none l [] h = refl
without_none l (e ∷ es) h =
    let (here, rest) = or_parts (same l e.link) (stands_in l es) h in
    without_no l e es here ∙ ap (λ (t : List Entry). e ∷ t) (without_none l es rest)

pub on_without : (l : Link) (es : List Entry) (e : Entry) → On es e → same l e.link ≡ false → On (without l es) e
on_without l [] e h t = elim h [ ]
on_without l (x ∷ es) e (inl h) t = subst (λ (b : Bool). On (cond (not b) (x ∷ without l es) (without l es)) e) (sym (ap (of_link l) h ∙ t)) (inl h)
on_without l (x ∷ es) e (inr h) t =
    elim (cases_Bool (same l x.link)) [
      | inl y ↦ subst (λ (b : Bool). On (cond (not b) (x ∷ without l es) (without l es)) e) (sym y) (on_without l es e h t)
      | inr n ↦ subst (λ (b : Bool). On (cond (not b) (x ∷ without l es) (without l es)) e) (sym n) (inr (on_without l es e h t))
    ]

pub without_on : (l : Link) (es : List Entry) (e : Entry) → On (without l es) e → On es e × (same l e.link ≡ false)
without_on l [] e h = elim h [ ]
without_on l (x ∷ es) e h =
    elim (cases_Bool (same l x.link)) [
      | inl y ↦ let (on, n) = without_on l es e (subst (λ (t : List Entry). On t e) (without_yes l x es y) h) in (inr on, n)
      | inr n ↦ ⊎_elim (λ is. (inl is, ap (of_link l) (sym is) ∙ n)) (λ on. let (k, m) = without_on l es e on in (inr k, m)) (subst (λ (t : List Entry). On t e) (without_no l x es n) h)
    ]

pub without_stands : (l : Link) (es : List Entry) → stands_in l (without l es) ≡ false
without_stands l es =
    elim (cases_Bool (stands_in l (without l es))) [
      | inl t ↦ let (e, on, s) = on_stands l (without l es) t in absurd (both_ways (same l e.link) (without_on l es e on).1 s)
      | inr t ↦ t
    ]

pub apart_without : (l : Link) (es : List Entry) → Apart es → Apart (without l es)
apart_without l es h m = omega (arith, fewer es, h m)
  where
    fewer : (es : List Entry) → count_by (of_link m) (without l es) ≤ count_by (of_link m) es
    fewer [] = omega arith
    fewer (e ∷ es) =
        elim (cases_Bool (same l e.link)) [
          | inl y ↦ omega (arith, ap (count_by (of_link m)) (without_yes l e es y), count_more (of_link m) e es, fewer es)
          | inr n ↦ omega (arith, ap (count_by (of_link m)) (without_no l e es n), count_more (of_link m) e es, count_more (of_link m) e (without l es), fewer es)
        ]
