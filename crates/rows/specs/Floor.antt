-- "floor is toward minus infinity" (document 01).
use Rattle.std.specs.Prelude.{ℕ, ◌-◌, ◌/◌, ◌%◌, ℤ, pos, negsuc}

-- the floor of z / m; negsuc a is -(a + 1)
abbrev pub floor : ℤ → ℕ → ℤ
floor (pos a) m = pos (a / m)
floor (negsuc a) m = negsuc (a / m)

-- z mod m: z less m times that floor
abbrev pub modulo : ℤ → ℕ → ℕ
modulo (pos a) m = a % m
modulo (negsuc a) m = m - 1 - a % m
