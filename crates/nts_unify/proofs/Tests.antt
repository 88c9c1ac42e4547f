-- What a test that is the other one's opposite says.
use Rattle.std.proofs.Common.{◌≡◌, Bool, true, false, not, refl}

pub is_false : (b x : Bool) → b ≡ not x → b ≡ true → x ≡ false
is_false b true e t = cc
is_false b false e t = refl

pub is_true : (b x : Bool) → b ≡ not x → b ≡ false → x ≡ true
is_true b true e t = refl
is_true b false e t = cc
