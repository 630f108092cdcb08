-- The text of a sheet: its head, a line for each owner, its foot, and the whole. Assumes nothing.
use Rattle.std.specs.Prelude.{ℕ, suc, List, [], ◌∷◌, ◌++◌, map, ℤ, codes, decimal}
use Rattle.std.specs.Fmt.{signed_decimal}
use Rattle.league.specs.Lines.{line}
use Rattle.league.specs.Scores.{league_points_of, place}
use Rattle.league.specs.declared.owner.OwnerTotal.{OwnerTotal}

-- T, the kind's letter, the standing links
abbrev pub head_text : ℕ → ℕ → List ℕ
head_text capital standing = line (codes "T" ∷ ((capital ∷ []) ∷ (decimal standing ∷ [])))

-- an owner's number, links, total, league points and place
abbrev pub owner_text : List ℤ → ℕ → ℕ → List ℕ → ℤ → List ℕ
owner_text weights owner links total weight =
    line (decimal owner ∷ (decimal links ∷ (total ∷ (signed_decimal (league_points_of weight) ∷ (decimal (place weights weight) ∷ [])))))

-- what the owners' totals weigh
abbrev pub weights_of : {V : Type 0} → (V → List ℤ) → (List ℤ → ℤ) → List (OwnerTotal V) → List ℤ
weights_of columns weigh owners = map (λ o. weigh (columns o.total)) owners

-- the texts of these things, numbered from n on, one after another
abbrev pub numbered : {V : Type 0} → (ℕ → V → List ℕ) → ℕ → List V → List ℕ
numbered text n [] = []
numbered text n (x ∷ xs) = text n x ++ numbered text (suc n) xs

-- the line of an owner among these weights
abbrev pub line_of : {V : Type 0} → (V → List ℤ) → (List ℤ → ℤ) → (List ℤ → List ℕ) → List ℤ → ℕ → OwnerTotal V → List ℕ
line_of columns weigh text weights owner o = owner_text weights owner o.links (text (columns o.total)) (weigh (columns o.total))

-- a line for each owner, from owner 1 on
abbrev pub owners_text : {V : Type 0} → (V → List ℤ) → (List ℤ → ℤ) → (List ℤ → List ℕ) → List (OwnerTotal V) → List ℕ
owners_text columns weigh text owners = numbered (line_of columns weigh text (weights_of columns weigh owners)) 1 owners

-- Z, and how many owners there are
abbrev pub foot_text : List ℕ
foot_text = line (codes "Z" ∷ (codes "7" ∷ []))

abbrev pub sheet_text : {V : Type 0} → ℕ → (V → List ℤ) → (List ℤ → ℤ) → (List ℤ → List ℕ) → ℕ → List (OwnerTotal V) → List ℕ
sheet_text capital columns weigh text standing owners =
    head_text capital standing ++ (owners_text columns weigh text owners ++ foot_text)
