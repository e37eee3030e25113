-- Programs one after another: they run in their order and are undone in the other, by induction on the first.
use Prim.Native.Nat.{ℕ, suc}
use mathlib.Core.Path.{◌≡◌, refl, ap}
use mathlib.Core.List.{List}
use lib.IntN.{ℤ}
use Rattle.lifting.specs.Program.{Program, end, ◌⨾◌, reorder, apply, line, back, get, put, run, undo, ◌then◌, each, run_by, undo_by}

pub run_then : (p q : Program) (v : List ℤ) → run (p then q) v ≡ run q (run p v)
unfolding run_by ◌then◌
run_then end q v = refl
run_then (l ⨾ p) q v = run_then p q (line l v)
run_then (reorder to back p) q v = run_then p q (get back v)
run_then (apply o s ps p) q v = run_then p q (put ps (run s (get ps v)) v)

pub undo_then : (p q : Program) (v : List ℤ) → undo (p then q) v ≡ undo p (undo q v)
unfolding undo_by ◌then◌
undo_then end q v = refl
undo_then (l ⨾ p) q v = ap (line (back l)) (undo_then p q v)
undo_then (reorder to back p) q v = ap (get to) (undo_then p q v)
undo_then (apply o s ps p) q v = ap (λ u. put ps (undo s (get ps u)) u) (undo_then p q v)

pub run-each : (k : ℕ) (f : ℕ → Program) (v : List ℤ) → run (each (suc k) f) v ≡ run (f k) (run (each k f) v)
unfolding each
run-each k f v = run_then (each k f) (f k) v

pub undo-each : (k : ℕ) (f : ℕ → Program) (v : List ℤ) → undo (each (suc k) f) v ≡ undo (each k f) (undo (f k) v)
unfolding each
undo-each k f v = undo_then (each k f) (f k) v
