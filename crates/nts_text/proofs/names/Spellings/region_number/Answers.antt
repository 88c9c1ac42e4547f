use Rattle.std.proofs.Common.{nat_eq}
use Rattle.std.specs.Cmp.Lexicographic.{pointwise}
use Rattle.nts_text.proofs.SpellingLemmas.{number_stored, lengthens_insert}
use Rattle.nts_text.proofs.names.Spellings.region_number.Goals as goal

pub returns-clause-number : goal.returns-clause-number
returns-clause-number c =
    let s = c.in_ok-number.ensures.stored in
    number_stored (λ v. v.items) c.insert_full.new.self.keys c.in_ok-number.number s.0 c.in_ok-from_slice.field-0 c.args.name.now s.1 s.2 c.in_ok-from_slice.ensures.items

pub returns-clause-kept : goal.returns-clause-kept
returns-clause-kept c =
    lengthens_insert (λ v. v.items) (λ x y. pointwise nat_eq x.items y.items) c.args.self.now.regions.keys c.insert_full.new.self.keys c.in_ok-from_slice.field-0 c.in_ok-number.ensures.keys
