-- What names stand for.
use Rattle.std.specs.Prelude.{◌≡◌, ℕ, Bool, true, nat_lt, List, codes}
use Rattle.nts_model.specs.declared.labels.IntTy.{IntTy}
use Rattle.nts_model.specs.declared.labels.IntTy.TheVariants as ints
use Rattle.nts_model.specs.declared.labels.UintTy.{UintTy}
use Rattle.nts_model.specs.declared.labels.UintTy.TheVariants as uints
use Rattle.nts_text.specs.declared.names.Declared.{Declared}
use Rattle.nts_text.specs.declared.names.Declared.TheVariants as declared

-- the number is one of so many types, traits or aliases
abbrev pub is_numbered : ℕ → ℕ → ℕ → Declared → Bool
is_numbered types traits aliases (declared.Int t) = true
is_numbered types traits aliases (declared.Uint t) = true
is_numbered types traits aliases (declared.Type n) = nat_lt n types
is_numbered types traits aliases (declared.Trait n) = nat_lt n traits
is_numbered types traits aliases (declared.Alias n rigid) = nat_lt n aliases

abbrev pub word_of_int : IntTy → List ℕ
word_of_int ints.I8 = codes "i8"
word_of_int ints.I16 = codes "i16"
word_of_int ints.I32 = codes "i32"
word_of_int ints.I64 = codes "i64"
word_of_int ints.I128 = codes "i128"
word_of_int ints.Isize = codes "isize"

abbrev pub word_of_uint : UintTy → List ℕ
word_of_uint uints.U8 = codes "u8"
word_of_uint uints.U16 = codes "u16"
word_of_uint uints.U32 = codes "u32"
word_of_uint uints.U64 = codes "u64"
word_of_uint uints.U128 = codes "u128"
word_of_uint uints.Usize = codes "usize"

-- the name is that of the known type
abbrev pub IsNameOf : Declared → List ℕ → Type 0
IsNameOf (declared.Int t) name = name ≡ word_of_int t
IsNameOf (declared.Uint t) name = name ≡ word_of_uint t
IsNameOf _ name = ⊥
