-- Texts numbered one after another. Assumes nothing.
use Rattle.std.proofs.Common.{◌≡◌, ℕ, suc, ◌+◌, ◌<◌, List, [], ◌∷◌, ◌++◌, length, get_or, take, sym, ap, ◌∙◌, append_assoc, append-nil, arith, length-take}
use Rattle.std.proofs.lemmas.List.{take_more}
use Rattle.league.specs.Sheets.{numbered}

numbered_push : {V : Type 0} (f : ℕ → V → List ℕ) (n m : ℕ) (xs : List V) (x : V) → m ≡ n + length xs → numbered f n (xs ++ (x ∷ [])) ≡ numbered f n xs ++ f m x
numbered_push f n m [] x e = append-nil (f n x) ∙ ap (λ k. f k x) (omega arith)
numbered_push f n m (y ∷ ys) x e =
    ap (λ t. f n y ++ t) (numbered_push f (suc n) m ys x (omega arith)) ∙ sym (append_assoc (f n y) (numbered f (suc n) ys) (f m x))

pub numbered_more : {V : Type 0} (f : ℕ → V → List ℕ) (n m : ℕ) (xs : List V) (i : ℕ) (x : V) → i < length xs → m ≡ n + i
    → numbered f n (take i xs) ++ f m (get_or xs i x) ≡ numbered f n (take (i + 1) xs)
numbered_more f n m xs i x h q =
    sym (ap (numbered f n) (take_more xs i x h) ∙ numbered_push f n m (take i xs) (get_or xs i x) (omega (arith, length-take i xs)))
