use Rattle.std.proofs.Common.{◌≡◌, ℕ, ◌<◌, get_or}
use Rattle.maps.proofs.checks.copy_sound.Given as goal

abbrev pub invariant-loop-i : goal.invariant-loop-i
invariant-loop-i g l =
    ((q : ℕ) → q < l.i → get_or l.links q (0, 0) ≡ get_or (g.M.Map.meaning l.map).links q (0, 0))
    × ((q : ℕ) → q < l.i → ((get_or (g.M.Map.meaning l.map).links q (0, 0)).0 < l.n) × ((get_or (g.M.Map.meaning l.map).links q (0, 0)).1 < l.n) × ((get_or (g.M.Map.meaning l.map).links q (0, 0)).0 ≡ (get_or (g.M.Map.meaning l.map).links q (0, 0)).1 → ⊥))
