use Rattle.std.proofs.Common.{inl, inr, refl}
use Rattle.nts_trying.proofs.asked.keep_asked.Goals as goal

pub returns-then-asks_all : goal.returns-then-asks_all
returns-then-asks_all c = inl (record { asked = rw c.deref.ensures.value at (c.asks_all.ensures.yes c.if-asks_all.true); same = refl; sure = refl })

pub returns : goal.returns
returns c =
    inr (record {
      inside = c.asks_all.ensures.inside c.if-asks_all.false;
      some = rw c.deref.ensures.value at (c.asks_all.ensures.no c.if-asks_all.false);
      those = rw c.deref-2.ensures.value at c.in_ok-goals.ensures;
      doubt = refl;
    })
