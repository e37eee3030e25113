-- Pieces of figures, for the functions that compute them. That the pieces make up their figures is proved.
use Rattle.std.specs.Prelude.{ℤ, pos, ℕ, List, [], ◌∷◌}
use Rattle.lifting.specs.Program.{var, ◌⊕◌, ◌⊖◌, 3×, ◌≫◌, ◌+=◌, ◌-=◌, Program, Operator, end, ◌⨾◌, apply, Hadamard, Odd, OddOdd, Rotation, Scale, PostOddOdd}
use Rattle.figures.specs.Letters.{a, b, c, d, e, f, g, h, i, j, k, l, m, n, o, p}
use Rattle.figures.specs.Figures.{hadamard, odd, odd_odd, rotation, scale, post_odd_odd}

abbrev two : ℕ → ℕ → List ℕ
two x y = x ∷ y ∷ []

abbrev four : ℕ → ℕ → ℕ → ℕ → List ℕ
four x y z w = x ∷ y ∷ z ∷ w ∷ []

-- The lines that Figures 4.6 and 4.12 share: the figures differ in the roundings K and L, and Figure 4.6 then negates b and c.
unfoldable pub odd_odd_rounded : ℤ → ℤ → Program
odd_odd_rounded K L =
    d += var a
    ⨾ c -= var b
    ⨾ a -= (var d ≫ 1)
    ⨾ b += (var c ≫ 1)
    ⨾ a -= (3× (var b) ⊕ K ≫ 3)
    ⨾ b += (3× (var a) ⊕ L ≫ 2)
    ⨾ a -= (3× (var b) ⊕ pos 4 ≫ 3)
    ⨾ b -= (var c ≫ 1)
    ⨾ a += (var d ≫ 1)
    ⨾ c += var b
    ⨾ d -= var a
    ⨾ end

-- Figure 4.13 up to its last six lines
unfoldable pub four_rotation : Program
four_rotation =
    a += var d
    ⨾ b += var c
    ⨾ d -= (var a ⊕ pos 1 ≫ 1)
    ⨾ c -= (var b ⊕ pos 1 ≫ 1)
    ⨾ apply Rotation rotation (two c d)
    (d += (var a ⊕ pos 1 ≫ 1)
    ⨾ c += (var b ⊕ pos 1 ≫ 1)
    ⨾ end)

-- What the last six lines of Figure 4.13 do to a with d and, in the same way, to b with c
unfoldable pub pair_scale : Program
pair_scale =
    a -= (var b ⊖ (3× (var b) ⊕ pos 16 ≫ 5))
    ⨾ b += (3× (var a) ⊕ pos 8 ≫ 4)
    ⨾ a += (3× (var b) ⊕ pos 16 ≫ 5)
    ⨾ end

-- Figure 4.8 in its two stages: the operators on the quarters, and Figure 4.4 on the mirrored fours
unfoldable pub quarter_stage : Program
quarter_stage =
    apply Hadamard (hadamard (pos 1)) (four 0 1 4 5)
    (apply Odd odd (four 2 3 6 7)
    (apply Odd odd (four 8 12 9 13)
    (apply OddOdd odd_odd (four 10 11 14 15)
    end)))

unfoldable pub core_mirrored_stage : Program
core_mirrored_stage =
    apply Hadamard (hadamard (pos 0)) (four 0 3 12 15)
    (apply Hadamard (hadamard (pos 0)) (four 5 6 9 10)
    (apply Hadamard (hadamard (pos 0)) (four 1 2 13 14)
    (apply Hadamard (hadamard (pos 0)) (four 4 7 8 11)
    end)))

-- Figure 4.14 in its three stages: the first and the last have one operator on each mirrored four, and the one between goes across them
unfoldable pub mirrored_stage : Operator → Program → Program
mirrored_stage O s =
    apply O s (four a d m p)
    (apply O s (four b c n o)
    (apply O s (four e h i l)
    (apply O s (four f g j k)
    end)))

unfoldable pub crossed_stage : Program
crossed_stage =
    apply Rotation rotation (two n m)
    (apply Rotation rotation (two j i)
    (apply Rotation rotation (two h d)
    (apply Rotation rotation (two g c)
    (apply PostOddOdd post_odd_odd (four k l o p)
    (apply Scale scale (two a p)
    (apply Scale scale (two b o)
    (apply Scale scale (two e l)
    (apply Scale scale (two f k)
    end))))))))
