-- Where some answers lie (document 02, P4).
use Rattle.std.specs.Prelude.{List, [], ◌∷◌}
use Rattle.posit.specs.declared.side.Side.TheVariants.{Below, On, Above}
use Rattle.p16e1.specs.Points.{Point, sided}

abbrev pub sides : List Point
sides =
    -- on the kernel's fraction, and above the exact logarithm
    sided 3 0x2F0B 0xC8D9 On
    -- named outright, or the argument itself; "0, 1, -1 and NaR that rows 5 to 7 give without P"
    ∷ sided 1 0x7FFF 0x7FFF On ∷ sided 1 0x8001 0x0001 On ∷ sided 2 0x0001 0x4000 On ∷ sided 8 0x8000 0x8000 On
    ∷ sided 5 0xD000 0xC000 On ∷ sided 6 0x3000 0 On ∷ sided 7 0x2000 0x4000 On ∷ sided 7 0x3000 0x8000 On
    -- a kernel that gives 0
    ∷ sided 3 0x4000 0 On ∷ sided 4 0x4000 0 On ∷ sided 10 0x4000 0 On
    -- 2 ^ 27 and 2 ^ -27, a tiny number and minus that, and 1 from the kernel
    ∷ sided 2 0x72C0 0x7FFE Below ∷ sided 2 0x8D40 0x0002 Above ∷ sided 8 0x0001 0x0001 Above ∷ sided 8 0xFFFF 0xFFFF Below
    ∷ sided 6 0x0001 0x4000 Above ∷ []
