-- Laws of league points and places, and worked halves. Assumes nothing.
use Rattle.std.specs.Prelude.{◌≡◌, ℕ, ◌+◌, ◌*◌, ◌%◌, ◌<◌, List, [], ◌∷◌, length, ℤ, pos, negsuc, neg_ℤ, ◌<ℤ◌, slice_index_or, unsigned_abs}
use Rattle.league.specs.Scores.{league_points_of, place}

pub record WorkedScores : Type 0 where
  -- one half counts 1, and minus one half -1
  pub half : league_points_of (pos 1) ≡ pos 1
  pub minus_half : league_points_of (negsuc 0) ≡ negsuc 0
  -- an even size is halved, an odd one rounded up; above and below 0 alike
  pub size : (z : ℤ) → unsigned_abs (league_points_of z) * 2 ≡ unsigned_abs z + unsigned_abs z % 2
  pub alike : (z : ℤ) → league_points_of (neg_ℤ z) ≡ neg_ℤ (league_points_of z)
  -- two in front share place 1, and the next has place 3
  pub ties : place (pos 4 ∷ (pos 4 ∷ (negsuc 0 ∷ []))) (pos 4) ≡ 1
  pub after_ties : place (pos 4 ∷ (pos 4 ∷ (negsuc 0 ∷ []))) (negsuc 0) ≡ 3
  -- the weight at place k on the list has a place before every lower weight
  pub before : (weights : List ℤ) (k : ℕ) (low : ℤ) → k < length weights → low <ℤ slice_index_or weights k (pos 0) → place weights (slice_index_or weights k (pos 0)) < place weights low
