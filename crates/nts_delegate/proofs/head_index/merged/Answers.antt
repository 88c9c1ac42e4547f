use Rattle.std.proofs.Common.{refl, sym, subst, arith}
use Rattle.nts_delegate.proofs.Merging.{IsMergedTo, takes_built, takes_blanket, all_taken}
use Rattle.nts_delegate.proofs.head_index.merged.Goals as goal

pub loop-i-init : goal.loop-i-init
loop-i-init c = record {
  built_within = omega arith;
  blanket_within = omega arith;
  merged = λ zs m. subst (λ taken. IsMergedTo c.args.built.now c.args.blanket.now taken zs) (sym c.new-places.ensures.items) (record { left = zs; all = refl; merged = m });
}

pub loop-i-preserved-then-is_next : goal.loop-i-preserved-then-is_next
loop-i-preserved-then-is_next c =
    let i = c.loop-i.invariant in
    let next = c.is_next.ensures.yes c.if-is_next.true in
    let within = next.0 in
    let other = i.blanket_within in
    record {
      built_within = omega (arith, within);
      blanket_within = other;
      merged = λ zs m. takes_built c.args.built.now c.args.blanket.now c.loop-i.places.items c.push.new.self.items zs c.loop-i.i c.loop-i.j 0 _ (i.merged zs m) within next.1 refl c.in_ok-push.ensures.items;
    }

pub loop-i-preserved : goal.loop-i-preserved
loop-i-preserved c =
    let i = c.loop-i.invariant in
    let next = c.is_next.ensures.no c.if-is_next.false in
    let within = next.0 in
    let other = i.built_within in
    record {
      built_within = other;
      blanket_within = omega (arith, within);
      merged = λ zs m. takes_blanket c.args.built.now c.args.blanket.now c.loop-i.places.items c.push-else-is_next.new.self.items zs c.loop-i.i c.loop-i.j 0 _ (i.merged zs m) within next.1 refl c.in_ok-push-2.ensures.items;
    }

pub returns : goal.returns
returns c = λ zs m.
    (let i = c.loop-i.invariant in
    let one = c.if-i-built.false in
    let other = c.if-j-blanket.false in
    all_taken c.args.built.now c.args.blanket.now c.loop-i.places.items zs c.loop-i.i c.loop-i.j (i.merged zs m) (omega (arith, one)) (omega (arith, other)))
