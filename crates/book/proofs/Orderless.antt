-- What lists of entries give in any order: lengths, totals and counts, with one struck out, and of two lists with the same entries.
use Rattle.std.proofs.Common.{◌≡◌, ℕ, zero, suc, ◌+◌, ◌*◌, ◌<◌, Bool, true, false, cond, ◌&&◌, eqb, ◌⊎◌, List, [], ◌∷◌, map, length, ℤ, pos, ◌+ℤ◌, count_by, sym, refl, ap, ◌∙◌, subst, inl, inr, ⊎_elim, arith}
use lib.IntN.{+ℤ_assoc, +ℤ_comm}
use Rattle.std.proofs.lemmas.List.Sums.{sum_by-cons}
use Rattle.std.proofs.lemmas.Bool.{cases_Bool, both_ways, cond-true, cond-false, cond_both, eq-eqb, ne_eqb}
use Rattle.maps.specs.Density.{Overfull, Crowded, SmallestOverfull}
use Rattle.maps.specs.Links.{Link, same}
use Rattle.maps.specs.Sets.{Spaces, holds, held, size}
use Rattle.crowding.specs.Bags.{SameLinks}
use Rattle.crowding.proofs.Pairs.{same_self, same_by_pairs}
use Rattle.crowding.proofs.Sums.{bit}
use Rattle.values.specs.Columns.{by_column}
use Rattle.book.specs.Book.{Entry, links_of, stands_in, On, Apart, of_owner, without, zeros, total_of, printed_entry}
use Rattle.book.specs.Calls.{Columns}
use Rattle.book.proofs.Entries.{of_link, count_more, count_links_lem, stands_none, stands_on, on_stands, on_not_stands, apart_tail, apart_head, without_yes, without_no, without_none, on_without, without_on, apart_without}

-- the same entries, in any order
abbrev pub SameEntries : List Entry → List Entry → Type 0
SameEntries xs ys = ((e : Entry) → On xs e → On ys e) × ((e : Entry) → On ys e → On xs e)

-- what is gathered entry by entry, whichever comes first
module _ {A : Type 0} (f : Entry → A → A) (g : List Entry → A) (more : (e : Entry) (es : List Entry) → g (e ∷ es) ≡ f e (g es))
    (swaps : (x y : Entry) (a : A) → f x (f y a) ≡ f y (f x a)) where
  pub gathered_struck : (l : Link) (es : List Entry) (e : Entry) → Apart es → On es e → same l e.link ≡ true → g es ≡ f e (g (without l es))
  gathered_struck l [] e h on t = elim on [ ]
  gathered_struck l (x ∷ es) e h (inl is) t =
      let y : same l x.link ≡ true = ap (of_link l) is ∙ t in
      let none : stands_in l es ≡ false = stands_none l es (omega (arith, h l, count_more (of_link l) x es, ap bit y)) in
      more x es ∙ ap (λ (z : Entry). f z (g es)) is ∙ ap (λ (t : List Entry). f e (g t)) (sym (without_yes l x es y ∙ without_none l es none))
  gathered_struck l (x ∷ es) e h (inr on) t =
      let n : same l x.link ≡ false = later (cases_Bool (same l x.link)) in
      more x es ∙ ap (f x) (gathered_struck l es e (apart_tail x es h) on t) ∙ swaps x e (g (without l es))
      ∙ ap (f e) (sym (more x (without l es))) ∙ ap (λ (t : List Entry). f e (g t)) (sym (without_no l x es n))
    where
      later : (same l x.link ≡ true) ⊎ (same l x.link ≡ false) → same l x.link ≡ false
      later (inr n) = n
      later (inl y) = absurd (both_ways (stands_in l es) (stands_none l es (omega (arith, h l, count_more (of_link l) x es, ap bit y))) (stands_on l es e on t))

  -- two lists with the same entries, no link twice in either
  pub gathered_same : (xs ys : List Entry) → Apart xs → Apart ys → SameEntries xs ys → g xs ≡ g ys
  gathered_same [] [] h k s = refl
  gathered_same [] (y ∷ ys) h k s = absurd (s.1 y (inl refl))
  gathered_same (x ∷ xs) ys h k s =
      more x xs
      ∙ ap (f x) (gathered_same xs (without x.link ys) (apart_tail x xs h) (apart_without x.link ys k) (there, back))
      ∙ sym (gathered_struck x.link ys x k (s.0 x (inl refl)) (same_self x.link))
    where
      there : (e : Entry) → On xs e → On (without x.link ys) e
      there e on = on_without x.link ys e (s.0 e (inr on)) (on_not_stands x.link xs e (apart_head x xs h) on)

      back : (e : Entry) → On (without x.link ys) e → On xs e
      back e on =
          let (was, n) = without_on x.link ys e on in
          ⊎_elim (λ is. absurd (both_ways (same x.link e.link) n (ap (of_link x.link) (sym is) ∙ same_self x.link))) (λ t. t) (s.1 e was)

-- columns added in either order

add_swap : (x y z : ℤ) → x +ℤ (y +ℤ z) ≡ y +ℤ (x +ℤ z)
add_swap x y z = sym (+ℤ_assoc x y z) ∙ ap (λ (t : ℤ). t +ℤ z) (+ℤ_comm x y) ∙ +ℤ_assoc y x z

pub columns_swap : (xs ys zs : Columns) → by_column ◌+ℤ◌ xs (by_column ◌+ℤ◌ ys zs) ≡ by_column ◌+ℤ◌ ys (by_column ◌+ℤ◌ xs zs)
columns_swap [] [] zs = refl
columns_swap [] (y ∷ ys) [] = refl
columns_swap [] (y ∷ ys) (z ∷ zs) = refl
columns_swap (x ∷ xs) [] [] = refl
columns_swap (x ∷ xs) [] (z ∷ zs) = refl
columns_swap (x ∷ xs) (y ∷ ys) [] = refl
columns_swap (x ∷ xs) (y ∷ ys) (z ∷ zs) = ap (λ (t : ℤ). t ∷ by_column ◌+ℤ◌ xs (by_column ◌+ℤ◌ ys zs)) (add_swap x y z) ∙ ap (λ (t : Columns). (y +ℤ (x +ℤ z)) ∷ t) (columns_swap xs ys zs)

-- what one more entry adds, for all owners and for one

abbrev adds : Entry → Columns → Columns
adds e t = by_column ◌+ℤ◌ e.value t

abbrev adds_for : ℕ → Entry → Columns → Columns
adds_for o e t = cond (eqb e.owner o) (by_column ◌+ℤ◌ e.value t) t

abbrev counts_for : ℕ → Entry → ℕ → ℕ
counts_for o e n = cond (eqb e.owner o) (suc n) n

cond_swap : {A : Type 0} (b c : Bool) (f g : A → A) → ((a : A) → f (g a) ≡ g (f a)) → (a : A) → cond b (f (cond c (g a) a)) (cond c (g a) a) ≡ cond c (g (cond b (f a) a)) (cond b (f a) a)
cond_swap true true f g h a = h a
cond_swap true false f g h a = refl
cond_swap false true f g h a = refl
cond_swap false false f g h a = refl

cond_map : {A B : Type 0} (h : A → B) (b : Bool) (x y : A) → h (cond b x y) ≡ cond b (h x) (h y)
cond_map h true x y = refl
cond_map h false x y = refl

-- one entry more
pub total_more : (width o : ℕ) (e : Entry) (es : List Entry) → total_of width (of_owner o (e ∷ es)) ≡ cond (eqb e.owner o) (by_column ◌+ℤ◌ e.value (total_of width (of_owner o es))) (total_of width (of_owner o es))
total_more width o e es = cond_map (total_of width) (eqb e.owner o) (e ∷ of_owner o es) (of_owner o es)

pub length_more : (o : ℕ) (e : Entry) (es : List Entry) → length (of_owner o (e ∷ es)) ≡ cond (eqb e.owner o) (suc (length (of_owner o es))) (length (of_owner o es))
length_more o e es = cond_map (λ (t : List Entry). length t) (eqb e.owner o) (e ∷ of_owner o es) (of_owner o es)

total_swaps : (o : ℕ) (x y : Entry) (a : Columns) → adds_for o x (adds_for o y a) ≡ adds_for o y (adds_for o x a)
total_swaps o x y a = cond_swap (eqb x.owner o) (eqb y.owner o) (by_column ◌+ℤ◌ x.value) (by_column ◌+ℤ◌ y.value) (λ a. columns_swap x.value y.value a) a

length_swaps : (o : ℕ) (x y : Entry) (n : ℕ) → counts_for o x (counts_for o y n) ≡ counts_for o y (counts_for o x n)
length_swaps o x y n = cond_swap (eqb x.owner o) (eqb y.owner o) suc suc (λ n. refl) n

-- printed entries: their values come to nothing, and all are of owner 0

zeros_both : (width : ℕ) → by_column ◌+ℤ◌ (zeros width) (zeros width) ≡ zeros width
zeros_both zero = refl
zeros_both (suc width) = ap (λ (t : Columns). pos 0 ∷ t) (zeros_both width)

pub total_printed : (width o : ℕ) (links : List Link) → total_of width (of_owner o (map (printed_entry width) links)) ≡ zeros width
total_printed width o [] = refl
total_printed width o (l ∷ links) =
    total_more width o (printed_entry width l) (map (printed_entry width) links)
    ∙ cond_both (eqb 0 o) _ _ (λ (t : Columns). t ≡ zeros width)
    (λ _. ap (by_column ◌+ℤ◌ (zeros width)) (total_printed width o links) ∙ zeros_both width)
    (λ _. total_printed width o links)

pub length_printed : (width o : ℕ) (links : List Link) → length (of_owner o (map (printed_entry width) links)) ≡ cond (eqb 0 o) (length links) 0
length_printed width o [] = sym (cond_both (eqb 0 o) (length {A = Link} []) 0 (λ (n : ℕ). n ≡ 0) (λ _. refl) (λ _. refl))
length_printed width o (l ∷ links) =
    length_more o (printed_entry width l) (map (printed_entry width) links) ∙ more (eqb 0 o) (length (of_owner o (map (printed_entry width) links))) (length links) (length_printed width o links)
  where
    more : (t : Bool) (m n : ℕ) → m ≡ cond t n 0 → cond t (suc m) m ≡ cond t (suc n) 0
    more true m n h = ap suc h
    more false m n h = h

-- one entry struck out
module _ (l : Link) (es : List Entry) (e : Entry) (apart : Apart es) (on : On es e) (t : same l e.link ≡ true) where
  pub length_struck : length es ≡ suc (length (without l es))
  length_struck = gathered_struck (λ (x : Entry) (n : ℕ). suc n) (λ (t : List Entry). length t) (λ x xs. refl) (λ x y n. refl) l es e apart on t

  pub total_struck : (width : ℕ) → total_of width es ≡ by_column ◌+ℤ◌ e.value (total_of width (without l es))
  total_struck width = gathered_struck adds (total_of width) (λ x xs. refl) (λ x y a. columns_swap x.value y.value a) l es e apart on t

  -- of its owner
  pub owner_total_struck : (width : ℕ) → total_of width (of_owner e.owner es) ≡ by_column ◌+ℤ◌ e.value (total_of width (of_owner e.owner (without l es)))
  owner_total_struck width =
      gathered_struck (adds_for e.owner) (λ (t : List Entry). total_of width (of_owner e.owner t)) (total_more width e.owner) (total_swaps e.owner) l es e apart on t
      ∙ cond-true (eqb e.owner e.owner) _ _ (eq-eqb e.owner e.owner refl)

  pub owner_length_struck : length (of_owner e.owner es) ≡ suc (length (of_owner e.owner (without l es)))
  owner_length_struck =
      gathered_struck (counts_for e.owner) (λ (t : List Entry). length (of_owner e.owner t)) (length_more e.owner) (length_swaps e.owner) l es e apart on t
      ∙ cond-true (eqb e.owner e.owner) _ _ (eq-eqb e.owner e.owner refl)

  -- of another owner
  pub other_total_struck : (width o : ℕ) → (e.owner ≡ o → ⊥) → total_of width (of_owner o es) ≡ total_of width (of_owner o (without l es))
  other_total_struck width o n =
      gathered_struck (adds_for o) (λ (t : List Entry). total_of width (of_owner o t)) (total_more width o) (total_swaps o) l es e apart on t
      ∙ cond-false (eqb e.owner o) _ _ (ne_eqb e.owner o n)

  pub other_length_struck : (o : ℕ) → (e.owner ≡ o → ⊥) → length (of_owner o es) ≡ length (of_owner o (without l es))
  other_length_struck o n =
      gathered_struck (counts_for o) (λ (t : List Entry). length (of_owner o t)) (length_more o) (length_swaps o) l es e apart on t
      ∙ cond-false (eqb e.owner o) _ _ (ne_eqb e.owner o n)

-- two lists with the same entries
module _ (xs ys : List Entry) (apart_xs : Apart xs) (apart_ys : Apart ys) (s : SameEntries xs ys) where
  pub length_same : length xs ≡ length ys
  length_same = gathered_same (λ (x : Entry) (n : ℕ). suc n) (λ (t : List Entry). length t) (λ x xs. refl) (λ x y n. refl) xs ys apart_xs apart_ys s

  pub total_same : (width : ℕ) → total_of width xs ≡ total_of width ys
  total_same width = gathered_same adds (total_of width) (λ x xs. refl) (λ x y a. columns_swap x.value y.value a) xs ys apart_xs apart_ys s

  pub owner_total_same : (width o : ℕ) → total_of width (of_owner o xs) ≡ total_of width (of_owner o ys)
  owner_total_same width o = gathered_same (adds_for o) (λ (t : List Entry). total_of width (of_owner o t)) (total_more width o) (total_swaps o) xs ys apart_xs apart_ys s

  pub owner_length_same : (o : ℕ) → length (of_owner o xs) ≡ length (of_owner o ys)
  owner_length_same o = gathered_same (counts_for o) (λ (t : List Entry). length (of_owner o t)) (length_more o) (length_swaps o) xs ys apart_xs apart_ys s

  pub count_same : (p : Entry → Bool) → count_by p xs ≡ count_by p ys
  count_same p = gathered_same (λ (x : Entry) (n : ℕ). bit (p x) + n) (count_by p) (count_more p) (λ x y n. omega arith) xs ys apart_xs apart_ys s

  pub links_same : SameLinks (links_of xs) (links_of ys)
  links_same = (same_by_pairs (links_of xs) (links_of ys)).0 (λ a b. count_links_lem (a, b) xs ∙ count_same (of_link (a, b)) ∙ sym (count_links_lem (a, b) ys))

pub stands_same : (l : Link) (xs ys : List Entry) → SameEntries xs ys → stands_in l xs ≡ stands_in l ys
stands_same l xs ys s =
    elim (cases_Bool (stands_in l xs)) [
      | inl t ↦ let (e, on, is) = on_stands l xs t in t ∙ sym (stands_on l ys e (s.0 e on) is)
      | inr n ↦ elim (cases_Bool (stands_in l ys)) [
        | inl t ↦ let (e, on, is) = on_stands l ys t in stands_on l xs e (s.1 e on) is ∙ sym t
        | inr m ↦ n ∙ sym m
      ]
    ]

-- links that are the same on two lists crowd them alike

and_swap : (a b : Bool) → (a && b) ≡ (b && a)
and_swap true true = refl
and_swap true false = refl
and_swap false true = refl
and_swap false false = refl

pub links_more : (l : Link) (xs ys : List Link) → SameLinks xs ys → SameLinks (l ∷ xs) (l ∷ ys)
links_more l xs ys s p sym-p = omega (arith, sum_by-cons (λ (m : Link). bit (p m)) l xs, sum_by-cons (λ (m : Link). bit (p m)) l ys, s p sym-p)

pub held_same : (xs ys : List Link) → SameLinks xs ys → (s : Spaces) → held s xs ≡ held s ys
held_same xs ys h s = h (holds s) (λ a b. and_swap (s a) (s b))

module _ (k n : ℕ) (xs ys : List Link) (h : SameLinks xs ys) where
  pub overfull_same : (s : Spaces) → Overfull k n xs s → Overfull k n ys s
  overfull_same s (some, more) = (some, subst (λ (m : ℕ). k * size n s < m) (held_same xs ys h s) more)

  pub crowded_same : Crowded k n xs → Crowded k n ys
  crowded_same (s, o) = (s, overfull_same s o)

  overfull_back : (s : Spaces) → Overfull k n ys s → Overfull k n xs s
  overfull_back s (some, more) = (some, subst (λ (m : ℕ). k * size n s < m) (sym (held_same xs ys h s)) more)

  pub smallest_same : (s : Spaces) → SmallestOverfull k n xs s → SmallestOverfull k n ys s
  smallest_same s (o, inside) = (overfull_same s o, λ t u. inside t (overfull_back t u))
