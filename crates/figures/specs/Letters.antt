-- The letters that a figure gives its arguments, as places.
use Rattle.std.specs.Prelude.{ℕ}

abbrev pub a : ℕ
a = 0

abbrev pub b : ℕ
b = 1

abbrev pub c : ℕ
c = 2

abbrev pub d : ℕ
d = 3

abbrev pub e : ℕ
e = 4

abbrev pub f : ℕ
f = 5

abbrev pub g : ℕ
g = 6

abbrev pub h : ℕ
h = 7

abbrev pub i : ℕ
i = 8

abbrev pub j : ℕ
j = 9

abbrev pub k : ℕ
k = 10

abbrev pub l : ℕ
l = 11

abbrev pub m : ℕ
m = 12

abbrev pub n : ℕ
n = 13

abbrev pub o : ℕ
o = 14

abbrev pub p : ℕ
p = 15
