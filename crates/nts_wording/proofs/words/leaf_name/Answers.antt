use Rattle.std.proofs.Common.{ap, sym, ◌∙◌}
use Rattle.std.specs.Option.{option_map}
use Rattle.nts_wording.specs.Printing.{same_term}
use Rattle.nts_wording.proofs.Writing.{lookup_names}
use Rattle.nts_wording.proofs.words.leaf_name.Goals as goal

pub returns-in-Some : goal.returns-in-Some
returns-in-Some c =
    let found = lookup_names (same_term c.args.term) c.args.known.now.entries ∙ ap (option_map (λ v. v.items)) (sym c.in-Some.ensures.value) in
    rw (c.in-Variable.is, c.as_slice.ensures.value) (sym found)

pub returns-in-None : goal.returns-in-None
returns-in-None c =
    let found = lookup_names (same_term c.args.term) c.args.known.now.entries ∙ ap (option_map (λ v. v.items)) (sym c.in-None.ensures.value) in
    rw c.in-Variable.is (sym found)
