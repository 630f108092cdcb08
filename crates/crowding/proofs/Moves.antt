-- A cell filled, emptied, or turned to the link's other end.
use Rattle.std.proofs.Common.{◌≡◌, ℕ, suc, ◌+◌, ◌<◌, Bool, true, cond, ltb, List, [], ◌∷◌, length, count_by, sym, refl, ap, ◌∙◌, inl, inr, arith}
use Rattle.std.specs.List.{AllByRecursion}
use Rattle.std.proofs.lemmas.List.Sums.{sum_by-cons}
use Rattle.std.proofs.ByRecursion.{All-weaker}
use Rattle.std.proofs.lemmas.Bool.{cases_eq, lt-ltb, ltb-true}
use Rattle.maps.specs.Links.{Link}
use Rattle.crowding.specs.Bags.{SameLinks}
use Rattle.crowding.specs.Orientation.{cells, Rows, Oriented}
use Rattle.crowding.specs.Putting.{Same, Put}
use Rattle.crowding.specs.Theorems.{Laid, Lifted, Flipped}
use Rattle.crowding.proofs.Sums.{total_but, count_cells, count_full, count_all, count_yes}

count_true : (xs : List ℕ) → count_by (λ _. true) xs ≡ length xs
count_true [] = refl
count_true (x ∷ xs) = count_yes (λ _. true) x xs refl ∙ ap suc (count_true xs)

pub same_length : (xs ys : List ℕ) → Same xs ys → length xs ≡ length ys
same_length xs ys h = sym (count_true xs) ∙ h (λ _. true) ∙ count_true ys

same_all : (p : ℕ → Bool) (xs ys : List ℕ) → Same xs ys → AllByRecursion (λ c. p c ≡ true) ys → AllByRecursion (λ c. p c ≡ true) xs
same_all p xs ys h a = count_full p xs (omega (arith, h p, count_all p ys a, same_length xs ys h))

pub same_inside : (n : ℕ) (xs ys : List ℕ) → Same xs ys → AllByRecursion (λ c. c < n) ys → AllByRecursion (λ c. c < n) xs
same_inside n xs ys h a =
    All-weaker (λ c. ltb c n ≡ true) (λ c. c < n) (λ c. ltb-true c n) xs
    (same_all (λ c. ltb c n) xs ys h (All-weaker (λ c. c < n) (λ c. ltb c n ≡ true) (λ c. lt-ltb c n) ys a))

pub same_back : (xs ys : List ℕ) → Same xs ys → Same ys xs
same_back xs ys h q = sym (h q)

count_cons : (p : Link → Bool) (l : Link) (links : List Link) → count_by p (l ∷ links) ≡ cond (p l) 1 0 + count_by p links
count_cons p l links = sum_by-cons (λ y. cond (p y) 1 0) l links

-- the lengths of the rows, when v is put into the row of u
pub put_lengths
    : (n u v : ℕ) (row row' : Rows) → Put n u v row row'
    → (length (row' u) ≡ suc (length (row u))) × ((x : ℕ) → x < n → (x ≡ u → ⊥) → length (row' x) ≡ length (row x))
put_lengths n u v row row' m = (same_length (row' u) (v ∷ row u) m.here, λ x l ne. same_length (row' x) (row x) (m.others x l ne))

-- one cell more, by any test
pub put_cells : (n u v : ℕ) (row row' : Rows) → u < n → Put n u v row row' → (p : Link → Bool) → count_by p (cells row' n) ≡ count_by p ((u, v) ∷ cells row n)
put_cells n u v row row' l m p =
    omega (
      arith,
      count_cells p row n,
      count_cells p row' n,
      count_cons p ((u, v)) (cells row n),
      total_but (λ x. count_by (λ c. p (x, c)) (row' x)) (λ x. count_by (λ c. p (x, c)) (row x)) n u (λ x k ne. m.others x k ne (λ c. p (x, c))) l,
      m.here (λ c. p (u, c)),
      sum_by-cons (λ c. cond (p (u, c)) 1 0) v (row u),
    )

pub laid : Laid
laid cap n row row' links u v o lu lv free m =
    record {
      fits = λ x l. elim (cases_eq x u) [ inl q ↦ rw q (omega (arith, (put_lengths n u v row row' m).0)) | inr q ↦ omega (arith, (put_lengths n u v row row' m).1 x l q, o.fits x l) ];
      inside = λ x l. elim (cases_eq x u) [ inl q ↦ rw q (same_inside n (row' u) (v ∷ row u) m.here (lv, o.inside u lu)) | inr q ↦ same_inside n (row' x) (row x) (m.others x l q) (o.inside x l) ];
      same = λ p s. omega (arith, put_cells n u v row row' lu m p, count_cons p ((u, v)) (cells row n), count_cons p ((u, v)) links, o.same p s);
    }

pub lifted : Lifted
lifted cap n row row' links u v o lu m =
    record {
      fits = λ x l. elim (cases_eq x u) [ inl q ↦ rw q (omega (arith, (put_lengths n u v row row' m).0, o.fits u lu)) | inr q ↦ omega (arith, (put_lengths n u v row row' m).1 x l q, o.fits x l) ];
      inside = λ x l. elim (cases_eq x u) [ inl q ↦ rw q (same_inside n (v ∷ row u) (row' u) (same_back (row' u) (v ∷ row u) m.here) (o.inside u lu)).1 | inr q ↦ same_inside n (row x) (row' x) (same_back (row' x) (row x) (m.others x l q)) (o.inside x l) ];
      same = λ p s. omega (arith, put_cells n u v row row' lu m p, count_cons p ((u, v)) (cells row n), count_cons p ((u, v)) links, o.same p s);
    }

-- the same board, for another list of the same links
pub relinked : (cap : ℕ → ℕ) (n : ℕ) (row : Rows) (links links' : List Link) → Oriented cap n row links → SameLinks links links' → Oriented cap n row links'
relinked cap n row links links' o e = record { fits = o.fits; inside = o.inside; same = λ p s. o.same p s ∙ e p s }

pub flipped : Flipped
flipped cap n row mid row' links p w o lp lw free out back =
    relinked cap n row' ((w, p) ∷ cells mid n) links
    (laid cap n mid row' (cells mid n) w p
    (lifted cap n mid row (cells mid n) p w (relinked cap n row links ((p, w) ∷ cells mid n) o (λ t s. sym (o.same t s) ∙ put_cells n p w mid row lp out t)) lp out)
    lw lp free back)
    (λ t s. omega (arith, count_cons t ((w, p)) (cells mid n), count_cons t ((p, w)) (cells mid n), ap (λ (b : Bool). cond {A = ℕ} b 1 0) (s p w), put_cells n p w mid row lp out t, o.same t s))
