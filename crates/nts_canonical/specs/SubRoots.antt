-- The root of a variable's sub-unification class, as a function of the entries.
use Rattle.std.specs.Prelude.{ℕ, zero, suc, Option, Some, None, slice_get}
use Rattle.nts_unify.specs.declared.contents.Variable.{Variable}
use Rattle.nts_unify.specs.Entries.{Entries}

abbrev pub sub_link_in : Option Variable → Option ℕ
sub_link_in None = None
sub_link_in (Some v) = v.sub_link

abbrev pub along : (ℕ → ℕ) → ℕ → Option ℕ → ℕ
along f n None = n
along f n (Some m) = f m

-- following links of sub-unification for at most k steps
abbrev pub sub_follow : Entries → ℕ → ℕ → ℕ
sub_follow e zero n = n
sub_follow e (suc k) n = along (sub_follow e k) n (sub_link_in (slice_get e.variables n))

-- where the links of sub-unification end. They lead to lower numbers, so n steps are enough
abbrev pub sub_root_in : Entries → ℕ → ℕ
sub_root_in e n = sub_follow e n n
