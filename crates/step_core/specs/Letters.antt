-- The passes and the values that scripts speak of.
use Rattle.std.specs.Prelude.{ℕ}

-- passes
abbrev pub a : ℕ
a = 0

abbrev pub b : ℕ
b = 1

abbrev pub c : ℕ
c = 2

-- values
abbrev pub t : ℕ
t = 116

abbrev pub u : ℕ
u = 117

abbrev pub v : ℕ
v = 118

abbrev pub w : ℕ
w = 119

abbrev pub x : ℕ
x = 120

abbrev pub y : ℕ
y = 121

abbrev pub z : ℕ
z = 122
