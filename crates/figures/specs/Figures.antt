-- The operators of Figures 4.4 to 4.14 of source document 003, line by line.
-- A figure's arguments a, b, c, .. are the places 0, 1, 2, ..; a temporary is the expression that it stands for.
use Rattle.std.specs.Prelude.{ℕ, List, [], ◌∷◌, ℤ, pos}
use Rattle.lifting.specs.Program.{var, ◌⊕◌, ◌⊖◌, 3×, ◌≫◌, ◌+=◌, ◌-=◌, ◌from◌, neg, swap, Program, end, ◌⨾◌, reorder, apply, Hadamard, Odd, OddOdd, Rotation, Scale, PostHadamard, PostOddOdd}
use Rattle.figures.specs.Letters.{a, b, c, d, e, f, g, h, i, j, k, l, m, n, o, p}

abbrev two : ℕ → ℕ → List ℕ
two x y = x ∷ y ∷ []

abbrev four : ℕ → ℕ → ℕ → ℕ → List ℕ
four x y z w = x ∷ y ∷ z ∷ w ∷ []

-- Figure 4.4. Its t2 keeps c, so that c and d first change places.
unfoldable pub hadamard : ℤ → Program
hadamard R =
    a += var d
    ⨾ b -= var c
    ⨾ swap c d
    ⨾ c from (var a ⊖ var b ⊕ R ≫ 1)
    ⨾ d from (var a ⊖ var b ⊕ R ≫ 1)
    ⨾ a -= var d
    ⨾ b += var c
    ⨾ end

-- Figure 4.5
unfoldable pub odd : Program
odd =
    b += var d
    ⨾ a -= var c
    ⨾ d -= (var b ≫ 1)
    ⨾ c += (var a ⊕ pos 1 ≫ 1)
    ⨾ a -= (3× (var b) ⊕ pos 4 ≫ 3)
    ⨾ b += (3× (var a) ⊕ pos 4 ≫ 3)
    ⨾ c -= (3× (var d) ⊕ pos 4 ≫ 3)
    ⨾ d += (3× (var c) ⊕ pos 4 ≫ 3)
    ⨾ c -= (var b ⊕ pos 1 ≫ 1)
    ⨾ d from (var a ⊕ pos 1 ≫ 1)
    ⨾ b += var c
    ⨾ a -= var d
    ⨾ end

-- Figure 4.6
unfoldable pub odd_odd : Program
odd_odd =
    d += var a
    ⨾ c -= var b
    ⨾ a -= (var d ≫ 1)
    ⨾ b += (var c ≫ 1)
    ⨾ a -= (3× (var b) ⊕ pos 3 ≫ 3)
    ⨾ b += (3× (var a) ⊕ pos 3 ≫ 2)
    ⨾ a -= (3× (var b) ⊕ pos 4 ≫ 3)
    ⨾ b -= (var c ≫ 1)
    ⨾ a += (var d ≫ 1)
    ⨾ c += var b
    ⨾ d -= var a
    ⨾ neg b
    ⨾ neg c
    ⨾ end

-- The reorder that begins Figure 4.8, and its undoing: coefficient k goes to place `at k` of the table (01, "One block")
abbrev pub inverse_reorder : List ℕ
inverse_reorder = 0 ∷ 8 ∷ 4 ∷ 13 ∷ 2 ∷ 15 ∷ 3 ∷ 14 ∷ 1 ∷ 12 ∷ 5 ∷ 9 ∷ 7 ∷ 11 ∷ 6 ∷ 10 ∷ []

abbrev pub forward_reorder : List ℕ
forward_reorder = 0 ∷ 8 ∷ 4 ∷ 6 ∷ 2 ∷ 10 ∷ 14 ∷ 12 ∷ 1 ∷ 11 ∷ 15 ∷ 13 ∷ 9 ∷ 3 ∷ 7 ∷ 5 ∷ []

-- Figure 4.8: the two stages, and the whole
unfoldable pub core_stages : Program
core_stages =
    apply Hadamard (hadamard (pos 1)) (four 0 1 4 5)
    (apply Odd odd (four 2 3 6 7)
    (apply Odd odd (four 8 12 9 13)
    (apply OddOdd odd_odd (four 10 11 14 15)
    (apply Hadamard (hadamard (pos 0)) (four 0 3 12 15)
    (apply Hadamard (hadamard (pos 0)) (four 5 6 9 10)
    (apply Hadamard (hadamard (pos 0)) (four 1 2 13 14)
    (apply Hadamard (hadamard (pos 0)) (four 4 7 8 11)
    end)))))))

unfoldable pub core : Program
core = reorder inverse_reorder forward_reorder core_stages

-- Figure 4.9
unfoldable pub rotation : Program
rotation =
    a -= (var b ⊕ pos 1 ≫ 1)
    ⨾ b += (var a ⊕ pos 1 ≫ 1)
    ⨾ end

-- Figure 4.10
unfoldable pub scale : Program
scale =
    a += var b
    ⨾ b from (var a ≫ 1)
    ⨾ a += (3× (var b) ⊕ pos 0 ≫ 3)
    ⨾ b += (3× (var a) ⊕ pos 0 ≫ 4)
    ⨾ end

-- Figure 4.11
unfoldable pub post_hadamard : Program
post_hadamard =
    b -= var c
    ⨾ a += (3× (var d) ⊕ pos 4 ≫ 3)
    ⨾ d -= (var b ≫ 1)
    ⨾ c from (var a ⊖ var b ≫ 1)
    ⨾ swap c d
    ⨾ a -= var d
    ⨾ b += var c
    ⨾ end

-- Figure 4.12
unfoldable pub post_odd_odd : Program
post_odd_odd =
    d += var a
    ⨾ c -= var b
    ⨾ a -= (var d ≫ 1)
    ⨾ b += (var c ≫ 1)
    ⨾ a -= (3× (var b) ⊕ pos 6 ≫ 3)
    ⨾ b += (3× (var a) ⊕ pos 2 ≫ 2)
    ⨾ a -= (3× (var b) ⊕ pos 4 ≫ 3)
    ⨾ b -= (var c ≫ 1)
    ⨾ a += (var d ≫ 1)
    ⨾ c += var b
    ⨾ d -= var a
    ⨾ end

-- Figure 4.13
unfoldable pub four_filter : Program
four_filter =
    a += var d
    ⨾ b += var c
    ⨾ d -= (var a ⊕ pos 1 ≫ 1)
    ⨾ c -= (var b ⊕ pos 1 ≫ 1)
    ⨾ apply Rotation rotation (two c d)
    (d += (var a ⊕ pos 1 ≫ 1)
    ⨾ c += (var b ⊕ pos 1 ≫ 1)
    ⨾ a -= (var d ⊖ (3× (var d) ⊕ pos 16 ≫ 5))
    ⨾ b -= (var c ⊖ (3× (var c) ⊕ pos 16 ≫ 5))
    ⨾ d += (3× (var a) ⊕ pos 8 ≫ 4)
    ⨾ c += (3× (var b) ⊕ pos 8 ≫ 4)
    ⨾ a += (3× (var d) ⊕ pos 16 ≫ 5)
    ⨾ b += (3× (var c) ⊕ pos 16 ≫ 5)
    ⨾ end)

-- Figure 4.14. 2x2T_h_POST takes no R, so the spare 0 that the figure hands it is left out.
unfoldable pub square_filter : Program
square_filter =
    apply Hadamard (hadamard (pos 0)) (four a d m p)
    (apply Hadamard (hadamard (pos 0)) (four b c n o)
    (apply Hadamard (hadamard (pos 0)) (four e h i l)
    (apply Hadamard (hadamard (pos 0)) (four f g j k)
    (apply Rotation rotation (two n m)
    (apply Rotation rotation (two j i)
    (apply Rotation rotation (two h d)
    (apply Rotation rotation (two g c)
    (apply PostOddOdd post_odd_odd (four k l o p)
    (apply Scale scale (two a p)
    (apply Scale scale (two b o)
    (apply Scale scale (two e l)
    (apply Scale scale (two f k)
    (apply PostHadamard post_hadamard (four a d m p)
    (apply PostHadamard post_hadamard (four b c n o)
    (apply PostHadamard post_hadamard (four e h i l)
    (apply PostHadamard post_hadamard (four f g j k)
    end))))))))))))))))
