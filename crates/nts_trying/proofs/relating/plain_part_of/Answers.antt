use Rattle.std.proofs.Common.{◌≡◌, refl}
use Rattle.std.proofs.lemmas.List.Elements.{same_from_all_zip}
use Rattle.nts_trying.proofs.RelatedAliases.{plain_are}
use Rattle.nts_trying.proofs.relating.plain_part_of.Goals as goal

pub returns : goal.returns
returns c =
    let fresh : c.in_ok-fresh.fresh.items ≡ c.args.candidate.now.fresh.items = same_from_all_zip _ _ _ c.in_ok-fresh.ensures.cases.0 (λ x y r. r) in
    let equations = c.in_ok-equations.ensures in
    record {
      fresh = fresh;
      equations = equations;
      candidate = record {
        hidden = c.new-2.ensures.items;
        accesses = refl;
        equations = rw (fresh, equations) (plain_are c.args.cx.now.nodes c.args.candidate.now.fresh.items c.args.goal c.args.candidate.now.equations.items c.requires.equations);
        constraints = rw c.new.ensures.items tt;
        goals = rw c.new-3.ensures.items tt;
      };
    }
