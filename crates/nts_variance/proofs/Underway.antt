-- A call of relating under way: pairs that are taken, and those that were met before and are passed over.
use Rattle.std.proofs.Common.{ℕ, false, List, [], ◌∷◌, ◌++◌}
use Rattle.nts_variance.proofs.Passes.{pass_joined, pass_parted}
use Rattle.nts_model.specs.declared.labels.Variance.{Variance}
use Rattle.nts_model.specs.Tables.Contents.{Content}
use Rattle.nts_model.specs.Terms.Trees.{Tree}
use Rattle.nts_model.specs.Tables.Resolving.{IsSound}
use Rattle.nts_model.specs.Tables.Worlds.{World}
use Rattle.nts_model.specs.Tables.Holding.{Continues}
use Rattle.nts_model.specs.Lists.{Among}
use Rattle.nts_variance_model.specs.Variances.Relations.{Relating, AllSettleIn, ArePairsKnown}
use Rattle.nts_variance_model.specs.Variances.AnsweredGoals.{AllRelatedUnder}
use Rattle.nts_variance_model.specs.Variances.Leaving.{Judge, judging_of, Leaves, Refuses}
use Rattle.nts_variance_model.proofs.Variances.Generalizing.{settle_joined, settle_parted}
use Rattle.nts_model.proofs.Tables.Held.{Continues-refl, Continues-trans}
use Rattle.nts_variance_model.proofs.Variances.Leaving.{leaves_goal}
use Rattle.nts_variance_model.proofs.Variances.Meeting.{All, AllBelow, AreSmaller, AreMet, met_taken, met_again, met_passed}
use Rattle.nts_variance.specs.Taking.{Takes, Sense, HoldsIn, AllHoldIn, size_in, HoldBelow, Counts, IsUnderway}
use Rattle.nts_variance.proofs.Growing.{grown_refl, grown_trans}
use Rattle.nts_variance.proofs.PlainTerms.{stays_none, stays_then, plain_joined, plain_parted, pairs_stay}
use Rattle.nts_variance.proofs.Nodes.{answered_sides}
use Rattle.nts_variance.proofs.Pairs.{leaves_by, Leaves-none, Leaves-then, Leaves-beside, Refuses-then, Refuses-beside}
use Rattle.nts_variance.proofs.Turns.{answered_front}

pub joined_known : (f : Content) (xs ys : List Relating) → ArePairsKnown f xs → ArePairsKnown f ys → ArePairsKnown f (xs ++ ys)
joined_known f [] ys a b = b
joined_known f (x ∷ xs) ys a b = (a.0, a.1, joined_known f xs ys a.2 b)

module _ (declared : ℕ → List Variance) where
  abbrev Size : Sense → Relating → ℕ
  Size = size_in declared

  abbrev Holds : Sense → Relating → Type 0
  Holds = HoldsIn declared

  to_all : (w : Sense) (qs : List Relating) → AllHoldIn declared w qs → All Size Holds w qs
  to_all w [] h = tt
  to_all w (q ∷ qs) h = (h.0, to_all w qs h.1)

  all_related : (w : Sense) (qs : List Relating) → All Size Holds w qs → AllRelatedUnder declared w.table w.answers qs
  all_related w [] h = tt
  all_related w (q ∷ qs) h = (h.0, all_related w qs h.1)

  to_below : (w : Sense) (n : ℕ) (qs : List Relating) → HoldBelow declared w n qs → AllBelow Size Holds w n qs
  to_below w n [] h = tt
  to_below w n (q ∷ qs) h = (h.0, to_below w n qs h.1)

  from_below : (w : Sense) (n : ℕ) (qs : List Relating) → AllBelow Size Holds w n qs → HoldBelow declared w n qs
  from_below w n [] h = tt
  from_below w n (q ∷ qs) h = (h.0, from_below w n qs h.1)

  related_front : (f : Content) (ks : List Tree) (xs ys : List Relating) → AllRelatedUnder declared f ks (xs ++ ys) → AllRelatedUnder declared f ks xs × AllRelatedUnder declared f ks ys
  related_front f ks [] ys h = (tt, h)
  related_front f ks (x ∷ xs) ys h = (let r = related_front f ks xs ys h.1 in ((h.0, r.0), r.1))

  related_joined : (f : Content) (ks : List Tree) (xs ys : List Relating) → AllRelatedUnder declared f ks xs → AllRelatedUnder declared f ks ys → AllRelatedUnder declared f ks (xs ++ ys)
  related_joined f ks [] ys a b = b
  related_joined f ks (x ∷ xs) ys a b = (a.0, related_joined f ks xs ys a.1 b)

  hold_joined : (w : Sense) (xs ys : List Relating) → AllHoldIn declared w (xs ++ ys) → AllHoldIn declared w xs × AllHoldIn declared w ys
  hold_joined w [] ys h = (tt, h)
  hold_joined w (x ∷ xs) ys h = (let r = hold_joined w xs ys h.1 in ((h.0, r.0), r.1))

  are_met : (c d : Content) (p : Relating) (left es gs met : List Relating) → IsUnderway declared c d p left es gs met → AreMet Size Holds (Counts declared d es gs) met left
  are_met c d p left es gs met u = record { each = λ w v q i h. u.meets w v q i (from_below w (Size w q) left h) }

  -- what is left in another order
  Leaves-to : (c d : Content) (ps qs os gs : List Relating) → ((j : Judge declared) (w : World) → AllSettleIn (judging_of declared j) w qs → AllSettleIn (judging_of declared j) w os) → Leaves declared c d ps qs gs → Leaves declared c d ps os gs
  Leaves-to c d ps qs os gs to a =
      record {
        more = a.more;
        back = a.back;
        complete = λ j w s judges settled h. (let x = a.complete j w s judges settled h in let e = x.0 in (e, to j e.world x.1, x.2));
      }

  sorted_settle : (ns os left es : List Relating) (j : Judge declared) (w : World) → AllSettleIn (judging_of declared j) w ((ns ++ os) ++ (left ++ es)) → AllSettleIn (judging_of declared j) w ((ns ++ left) ++ (es ++ os))
  sorted_settle ns os left es j w h =
      let J = judging_of declared j in
      let law = j.lawful in
      let x = settle_parted J law w (ns ++ os) (left ++ es) h in
      let y = settle_parted J law w ns os x.0 in
      let z = settle_parted J law w left es x.1 in
      settle_joined J law w (ns ++ left) (es ++ os) (settle_joined J law w ns left y.0 z.0) (settle_joined J law w es os z.1 y.1)

  -- at first and in the end
  pub underway_start : (c : Content) (p : Relating) → IsSound c → IsUnderway declared c c p (p ∷ []) [] [] []
  underway_start c p sound =
      record {
        later = grown_refl c;
        continues = Continues-refl c sound;
        leaves = Leaves-none declared c (p ∷ []);
        sound = λ w v h. h.0;
        meets = λ w v q i h. absurd i;
        plain = λ h. (stays_none c, h);
        passes = λ P q h k. (h, k, tt, tt);
      }

  pub underway_end : (c d : Content) (p : Relating) (es gs met : List Relating) → IsUnderway declared c d p [] es gs met → Takes declared c d (p ∷ []) es gs
  underway_end c d p es gs met u =
      record {
        later = u.later;
        continues = u.continues;
        leaves = u.leaves;
        relates = record { related = λ f s on ks g h. (u.sound (record { table = f; answers = ks }) (record { sound = s; continues = on; answered = g; equal = h }) tt, tt) };
        plain = u.plain;
        passes = λ P q h k. (let x = u.passes P q h k in (x.0, x.2, x.3));
      }

  -- a pair that is taken: what it leaves is smaller, and it is met from now on
  pub underway_taken : (c d e : Content) (p q : Relating) (left es gs met ns os hs : List Relating) → IsSound c → IsSound d → ArePairsKnown d left → ArePairsKnown d es → ArePairsKnown d gs → Takes declared d e (q ∷ []) (ns ++ os) hs
      → ((w : Sense) → IsSound w.table → Continues e w.table → AreSmaller Size Holds w (Size w q) ns)
      → IsUnderway declared c d p (q ∷ left) es gs met → IsUnderway declared c e p (ns ++ left) (es ++ os) (gs ++ hs) (q ∷ met)
  underway_taken c d e p q left es gs met ns os hs sound_c sound kl ke kg t smaller u =
      record {
        later = grown_trans u.later t.later;
        continues = Continues-trans c d e sound_c u.continues t.continues;
        leaves = Leaves-to c e (p ∷ []) ((ns ++ os) ++ (left ++ es)) ((ns ++ left) ++ (es ++ os)) (gs ++ hs) (sorted_settle ns os left es)
            (Leaves-then declared c d e (p ∷ []) (q ∷ (left ++ es)) ((ns ++ os) ++ (left ++ es)) gs hs kg u.leaves (Leaves-beside declared d e (q ∷ []) (ns ++ os) (left ++ es) hs (joined_known d left es kl ke) t.leaves));
        sound = λ w v h. (let parts = hold_joined w ns left h in u.sound w (older w v) (holds w v (to_all w ns parts.0), parts.1));
        meets = λ w v x i h.
            (let all = met_taken Size Holds (Counts declared d es gs) (Counts declared e (es ++ os) (gs ++ hs)) met ns left q older (λ w v. smaller w v.sound v.continues) holds (are_met c d p (q ∷ left) es gs met u) in
            all.each w v x i (to_below w (Size w x) (ns ++ left) h));
        plain = λ h.
            (let x = u.plain h in
            let first = x.1 in
            let y = t.plain (first.0, tt) in
            let stays = y.0 in
            let new = plain_parted e ns os y.1 in
            let old = plain_parted e left es (pairs_stay d e (left ++ es) stays.keeps (joined_known d left es kl ke) first.1) in
            (stays_then c d e u.later t.later t.continues x.0 stays, plain_joined e (ns ++ left) (es ++ os) (plain_joined e ns left new.0 old.0) (plain_joined e es os old.1 new.1)));
        passes = λ P o h k.
            (let x = u.passes P o h k in
            let first = x.1 in
            let y = t.passes P o x.0 (first.0, first.1, tt) in
            let new = pass_parted P ns os y.1 in
            (y.0, pass_joined P ns left new.0 first.2, pass_joined P es os x.2 new.1, pass_joined P gs hs x.3 y.2));
      }
    where
      older : (w : Sense) → Counts declared e (es ++ os) (gs ++ hs) w → Counts declared d es gs w
      older w v =
          record {
            sound = v.sound;
            continues = Continues-trans d e w.table sound t.continues v.continues;
            answered = (answered_front w.table w.answers gs hs v.answered).0;
            equal = (related_front w.table w.answers es os v.equal).0;
          }

      holds : (w : Sense) → Counts declared e (es ++ os) (gs ++ hs) w → All Size Holds w ns → Holds w q
      holds w v h =
          let answered = (answered_front w.table w.answers gs hs v.answered).1 in
          let rest = (related_front w.table w.answers es os v.equal).1 in
          let x = t.relates.related w.table v.sound v.continues w.answers answered (related_joined w.table w.answers ns os (all_related w ns h) rest) in
          x.0

  -- pairs that were met may be forgotten
  pub underway_fewer : (c d : Content) (p : Relating) (left es gs met rest : List Relating) → ((q : Relating) → Among rest q → Among met q) → IsUnderway declared c d p left es gs met → IsUnderway declared c d p left es gs rest
  underway_fewer c d p left es gs met rest fewer u =
      record { later = u.later; continues = u.continues; leaves = u.leaves; sound = u.sound; meets = λ w v q i h. u.meets w v q (fewer q i) h; passes = u.passes; plain = u.plain }

  -- a pair that was met before is passed over
  pub underway_passed : (c d : Content) (p q : Relating) (left es gs met : List Relating) → Among met q → IsUnderway declared c d p (q ∷ left) es gs met → IsUnderway declared c d p left es gs met
  underway_passed c d p q left es gs met i u =
      let are = are_met c d p (q ∷ left) es gs met u in
      record {
        later = u.later;
        continues = u.continues;
        leaves = Leaves-to c d (p ∷ []) (q ∷ (left ++ es)) (left ++ es) gs (λ j w h. h.1) u.leaves;
        sound = λ w v h. u.sound w v (met_again Size Holds (Counts declared d es gs) met left q i are w v (to_all w left h), h);
        meets = λ w v x k h. (let passed = met_passed Size Holds (Counts declared d es gs) met left q i are in passed.each w v x k (to_below w (Size w x) left h));
        plain = λ h. (let x = u.plain h in let left = x.1 in (x.0, left.1));
        passes = λ P o h k. (let x = u.passes P o h k in let first = x.1 in (x.0, first.2, x.2, x.3));
      }

  -- no solution relates one that is left
  pub underway_refuses : (c d : Content) (p q : Relating) (left es gs met : List Relating) → IsUnderway declared c d p (q ∷ left) es gs met → Refuses declared d (q ∷ []) → Refuses declared c (p ∷ [])
  underway_refuses c d p q left es gs met u r = Refuses-then declared c d (p ∷ []) (q ∷ (left ++ es)) gs u.leaves (Refuses-beside declared d (q ∷ []) (left ++ es) r)

  -- a pair that is left, and one that becomes a goal
  pub takes_left : (c : Content) (q : Relating) → IsSound c → Takes declared c c (q ∷ []) (q ∷ []) []
  takes_left c q sound = record { later = grown_refl c; continues = Continues-refl c sound; leaves = Leaves-none declared c (q ∷ []); relates = record { related = λ f s on ks g h. h }; passes = λ P p h i. (h, i, tt); plain = λ h. (stays_none c, h) }

  pub takes_owed : (c : Content) (q : Relating) → IsSound c → Takes declared c c (q ∷ []) [] (q ∷ [])
  takes_owed c q sound =
      record {
        later = grown_refl c;
        continues = Continues-refl c sound;
        leaves = leaves_by declared c c (q ∷ []) [] (q ∷ []) (λ j. leaves_goal (judging_of declared j) j.lawful c q);
        relates = record { related = λ f s on ks g h. (answered_sides declared false f ks q.variance q.left q.right g.0, tt) };
        plain = λ h. (stays_none c, tt);
        passes = λ P p h i. (h, tt, i);
      }

  -- what was left for later is taken after all, where no pair was met
  sorted_back : (q : Relating) (left es : List Relating) (j : Judge declared) (w : World) → AllSettleIn (judging_of declared j) w (left ++ (es ++ q ∷ [])) → AllSettleIn (judging_of declared j) w ((q ∷ left) ++ es)
  sorted_back q left es j w h =
      let J = judging_of declared j in
      let law = j.lawful in
      let x = settle_parted J law w left (es ++ q ∷ []) h in
      let y = settle_parted J law w es (q ∷ []) x.1 in
      (y.1.0, settle_joined J law w left es x.0 y.0)

  pub underway_back : (c d : Content) (p q : Relating) (left es gs : List Relating) → IsUnderway declared c d p left (es ++ q ∷ []) gs [] → IsUnderway declared c d p (q ∷ left) es gs []
  underway_back c d p q left es gs u =
      record {
        later = u.later;
        continues = u.continues;
        leaves = Leaves-to c d (p ∷ []) (left ++ (es ++ q ∷ [])) ((q ∷ left) ++ es) gs (sorted_back q left es) u.leaves;
        sound = λ w v h. u.sound w (record { sound = v.sound; continues = v.continues; answered = v.answered; equal = related_joined w.table w.answers es (q ∷ []) v.equal (h.0, tt) }) h.1;
        meets = λ w v x i h. absurd i;
        plain = λ h.
            (let x = u.plain h in
            let outer = plain_parted d left (es ++ q ∷ []) x.1 in
            let inner = plain_parted d es (q ∷ []) outer.1 in
            let last = inner.1 in
            (x.0, (last.0, plain_joined d left es outer.0 inner.0)));
        passes = λ P o h k. (let x = u.passes P o h k in let parts = pass_parted P es (q ∷ []) x.2 in let last = parts.1 in (x.0, (last.0, last.1, x.1), parts.0, x.3));
      }

  -- all that a call left is for later
  pub underway_again : (c d : Content) (p : Relating) (es gs : List Relating) → Takes declared c d (p ∷ []) es gs → IsUnderway declared c d p [] es gs []
  underway_again c d p es gs t =
      record {
        later = t.later;
        continues = t.continues;
        leaves = t.leaves;
        sound = λ w v h. (t.relates.related w.table v.sound v.continues w.answers v.answered v.equal).0;
        meets = λ w v x i h. absurd i;
        plain = t.plain;
        passes = λ P o h k. (let x = t.passes P o h k in (x.0, tt, x.1, x.2));
      }
