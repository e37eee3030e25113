-- Each row of the starred table, taken from the statement that they hold together; the rows of the reference table by their sums.
use Prim.Native.Nat.{ℕ}
use mathlib.Core.Path.{◌≡◌, refl, ap}
use mathlib.Core.List.{List, [], map}
use lib.ListN.{get_or}
use lib.IntN.{ℤ}
use Rattle.lifting.specs.Program.{run}
use Rattle.figures.specs.Bench.{starred}
use Rattle.figures.proofs.Bench.{starred-hold}
use Rattle.known_answers.specs.Tables.{StarredValues, weighted, ReferenceRows}

row : (i : ℕ) → get_or (map (λ v. run v.operator v.input) starred) i [] ≡ get_or (map (λ v. v.output) starred) i []
row i = ap (λ (l : List (List ℤ)). get_or l i []) starred-hold.outputs

pub starred_values : StarredValues
starred_values =
    record {
      four-0 = row 0;
      one-0 = row 1;
      minus-one-0 = row 2;
      one-1 = row 3;
      minus-one-1 = row 4;
      wrapping = row 5;
      odd-8 = row 6;
      odd-odd-8 = row 7;
      rotation-1 = row 8;
      scale-8 = row 9;
      scale-minus-1 = row 10;
      post_hadamard_8 = row 11;
      core-0 = row 12;
      core-1 = row 13;
    }

pub reference-rows : ReferenceRows
unfolding weighted
reference-rows = (refl, refl, refl)
