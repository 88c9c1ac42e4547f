-- A variable gets a value.
use Rattle.nts_unify.proofs.Changes.{some_inj}
use Rattle.std.proofs.Common.{◌≡◌, ◌≢◌, ℕ, ◌<◌, List, length, Some, false, refl, sym, ap, subst, ◌∙◌, arith}
use Rattle.std.specs.Prelude.{slice_get, slice_set}
use Rattle.nts_model.specs.declared.labels.VariableKind.{VariableKind}
use Rattle.nts_model.specs.declared.labels.VariableKind.TheVariants as kind
use Rattle.nts_model.specs.declared.labels.Leaf.TheVariants as leaf
use Rattle.nts_model.specs.declared.labels.Label.TheVariants as label
use Rattle.nts_model.specs.Tables.Resolving.{resolved, rooted, Knows, variable_rank, rank_of_kind}
use Rattle.nts_model.specs.Tables.Levels.{NamesAll, level_in, term_level, region_level}
use Rattle.nts_model.specs.Terms.Fitting.{Fits}
use Rattle.nts_model.specs.Tables.Worlds.{inst, IsValue}
use Rattle.nts_unify.specs.Proper.{IsProper-known}
use Rattle.nts_model.specs.Tables.Holding.{AreOne, Continues}
use Rattle.nts_model.specs.Tables.Alike.{AreAlike}
use Rattle.nts_model.specs.Tables.Measuring.{closed_aliases}
use Rattle.nts_model.proofs.Tables.Fitting.{Fits-kind_of}
use Rattle.nts_model.proofs.Terms.Variables.{infer_number_some}
use Rattle.nts_model.proofs.Tables.Classes.{resolved-known_variable}
use Rattle.nts_model.proofs.Tables.Resolved.{resolved-variable_unset}
use Rattle.nts_model.proofs.Tables.Instances.{inst-agrees}
use Rattle.nts_model.proofs.Tables.Solving.{Solves-known, Solves-from_known, IsNameable-set}
use Rattle.nts_model.proofs.Tables.Held.{AreOne-continues, Continues-known, Continues-trans}
use Rattle.nts_model.proofs.Tables.Tying.{TiesNew-same, TiesNew-trans}
use Rattle.nts_model.proofs.Tables.Bringing.{brings-known}
use Rattle.nts_model.proofs.Tables.Alike.{AreAlike-continues, AreAlike-for}
use Rattle.nts_unify.proofs.Leading.{universe_of-entry}
use Rattle.nts_relating.proofs.Naming.{lawful_sides, kind_read}
use Rattle.nts_relating.proofs.AliasCounts.{aliases_one, aliases_known, unset_none}
use Rattle.nts_relating.proofs.Plain.{plain_one, plain_known, unset_plain}
use Rattle.nts_relating.proofs.PairLemmas.{set_one}
use Rattle.nts_relating.proofs.Ranks.{kind_of-like}
use Rattle.nts_model.specs.Terms.Trees.{Tree, empty, of_sort, sort_of_variable, kind_of, any_label, is_alias, IsFormed, variable_tree}
use Rattle.nts_model.specs.Tables.Contents.{Content, unset, known, state_of, kind_at, bound_to}
use Rattle.nts_model.proofs.Tables.Slots.{length-slice_set, slice_get_below}
use Rattle.nts_model.proofs.Tables.Binding.{IsKnowable, kind_at-set, IsSound-known, resolved-known_value}
use Rattle.nts_store.specs.declared.nodes.NodeId.{NodeId}
use Rattle.nts_store.specs.Growth.{tree_at, IsIn, Extends}
use Rattle.nts_unify.specs.declared.contents.State.TheVariants.{Link, Known}
use Rattle.nts_unify.specs.declared.contents.Variable.{Variable}
use Rattle.nts_unify.specs.Entries.{Entries, bound}
use Rattle.nts_unify.specs.Reading.{state_with, slot_of, content_of, IsLawful}
use Rattle.nts_unify.specs.Changing.{unset_count, unset_of, one_unset, IsLater, nothing_more}
use Rattle.nts_unify.specs.Joining.{IsBindable}
use Rattle.nts_relating.specs.Relating.{IsOpen, IsSet, Generalized, CanTake, AreMadeOne}
use Rattle.nts_unify.specs.Joining.{TakesVariable}
use Rattle.nts_unify.specs.Lawful.{IsLawful-extended, content_of-extended}
use Rattle.nts_unify.proofs.Changes.{slot_at, length-slots, content_of-bound, LeadsDown, leads_down, IsLawful-bound}
use Rattle.nts_unify.proofs.Keeping.{IsLater-trans, Knows-later, unset-set, unset_of-infer}
use Rattle.nts_unify.proofs.JoinLemmas.{free_slot}
use Rattle.nts_unify.proofs.Tied.{ties_of_keeps}
use Rattle.nts_unify.proofs.Leading.{state_of-entry, kind_at-entry}
use Rattle.nts_model.proofs.Tables.SubUnified.{JoinsSubRoots-known}

pub bindable_no_region : (ts : List Tree) (e : Entries) (x : ℕ) → IsBindable e x → kind_at (content_of ts e) x ≢ Some kind.Region
bindable_no_region ts e x h r = h.no_region (some_inj _ _ (sym (free_slot ts e x h.of_kind h.free).kind ∙ r))

pub record HasValue (ts us : List Tree) (e g : Entries) (x : ℕ) (t : Tree) : Type 0 where
  pub lawful : IsLawful us g
  pub set : IsSet (content_of ts e) (content_of us g) x t

pub bind_value : (ts us : List Tree) (e f g : Entries) (x : ℕ) (t v : NodeId) (w z : Variable) → IsLawful ts e → IsBindable e x → slice_get e.variables x ≡ Some w → Knows (content_of ts e) (tree_at ts t) → IsLawful us f → IsIn us v → IsFormed (tree_at us v) → Generalized (content_of ts e) (content_of us f) x w.universe 0 (tree_at ts t) (tree_at us v) → variable_rank (tree_at us v) < rank_of_kind w.kind → Fits w.kind (tree_at us v) → slice_get f.variables x ≡ Some z → g ≡ bound f x (record z { state = Known v }) → HasValue ts us e g x (tree_at ts t)
bind_value ts us e f g x t v w z before_lawful can_bind at knows_term h within formed gen lower fit now q =
    let c = content_of ts e in
    let d = content_of us f in
    let k = can_bind.of_kind in
    let free = free_slot ts e x k can_bind.free in
    let there_before : x < length e.variables = slice_get_below e.variables x w at in
    let less : x < length c.slots = omega (arith, there_before, length-slots ts e.variables) in
    let apart : kind_at c x ≢ Some kind.Region = λ r. can_bind.no_region (some_inj _ _ (sym free.kind ∙ r)) in
    let state : state_of d x ≡ Some unset = gen.keeps.states x less apart ∙ free.state in
    let there : kind_at d x ≡ Some k = gen.keeps.later.kinds x k free.kind in
    let new : Variable = record z { state = Known v } in
    let slot = slot_at us f x z now in
    let there_now : x < length d.slots = slice_get_below d.slots x (slot_of us z) slot in
    let is_unset : state_with us z.state ≡ unset = some_inj _ _ (sym (state_of-entry us f x z now) ∙ state) in
    let same : z.kind ≡ k = some_inj _ _ (sym (kind_at-entry us f x z now) ∙ there) in
    let first : w.kind ≡ k = some_inj _ _ (sym (kind_at-entry ts e x w at) ∙ free.kind) in
    let kinds : w.kind ≡ z.kind = first ∙ sym same in
    let fit_now : Fits z.kind (tree_at us v) = rw kinds at fit in
    let lower_now : variable_rank (tree_at us v) < rank_of_kind z.kind = rw kinds at lower in
    let sort : kind_of (tree_at us v) ≡ Some (of_sort (sort_of_variable z.kind)) = Fits-kind_of z.kind (tree_at us v) fit_now in
    let no_region : z.kind ≢ kind.Region = λ r. can_bind.no_region (sym same ∙ r) in
    let can : IsKnowable d x (slot_of us new) (tree_at us v) = record {
      binds = record { old = slot_of us z; was = slot; free = is_unset; same_kind = refl };
      is = refl;
      no_region = no_region;
      knows = gen.knows;
      closed = gen.closed;
      lower = lower_now;
      fits = sort;
      lacks = gen.lacks;
    } in
    let down = leads_down f x z h.descends now in
    let leads : LeadsDown x new = record { link = λ m r. (let y : Known v ≡ Link m = r in cc); sub_link = down.sub_link } in
    let eq : content_of us g ≡ bound_to d x (slot_of us new) = ap (content_of us) q ∙ content_of-bound us f x new in
    let count = unset-set d.slots x (slot_of us z) (slot_of us new) slot in
    let one : unset_of z.kind (state_with us z.state) ≡ 1 = unset_of-infer z.kind (state_with us z.state) no_region ∙ ap one_unset is_unset in
    let none : unset_of z.kind (known (tree_at us v)) ≡ 0 = unset_of-infer z.kind (known (tree_at us v)) no_region in
    let fewer : unset_count (slice_set d.slots x (slot_of us new)) < unset_count c.slots = omega (arith, count, one, none, gen.keeps.unset_kept) in
    let longer = length-slice_set d.slots x (slot_of us new) in
    let bound_later : IsLater d (bound_to d x (slot_of us new)) = record { more = omega (arith, longer); grows = omega arith; kinds = λ n j y. kind_at-set d x (slot_of us new) can.binds n ∙ y; subs = JoinsSubRoots-known d x (slot_of us new) (tree_at us v) can.binds refl refl; visible = nothing_more } in
    let after = bound_to d x (slot_of us new) in
    let sound_after = IsSound-known d x (slot_of us new) (tree_at us v) h.sound can in
    let known_continues = Continues-known d x (slot_of us new) (tree_at us v) can refl h.sound in
    let all : Continues c after = Continues-trans c d after before_lawful.sound gen.continues known_continues in
    let knows_old : Knows d (tree_at ts t) = Knows-later (tree_at ts t) gen.keeps.later knows_term in
    let alike : AreAlike after (tree_at us v) (tree_at ts t) =
    AreAlike-continues d after (tree_at us v) (tree_at ts t) h.sound sound_after known_continues (lawful_sides us f h) gen.knows knows_old gen.alike in
    let exact : NamesAll region_level w.universe (resolved c (tree_at ts t)) → AreOne after (tree_at us v) (tree_at ts t) =
    λ n. AreOne-continues d after (tree_at us v) (tree_at ts t) known_continues gen.knows knows_old (gen.exact n) in
    let one : (j : VariableKind) → kind_at c x ≡ Some j → AreOne after (variable_tree j x) (tree_at us v) =
    λ j has. (let not_region : j ≢ kind.Region = λ r. apart (has ∙ ap Some r) in
    ap (rooted after) (resolved-known_variable d x (slot_of us new) (tree_at us v) h.sound can (label.Leaf (leaf.Variable j x)) empty (infer_number_some j x not_region)
    ∙ sym (resolved-known_value d x (slot_of us new) (tree_at us v) h.sound can))) in
    let own_universe : Some z.universe ≡ Some w.universe = sym (universe_of-entry us f x z now) ∙ gen.own ∙ universe_of-entry ts e x w at in
    let same_universe : z.universe ≡ w.universe = cc in
    let names : NamesAll (level_in d) z.universe (tree_at us v) = rw same_universe gen.named in
    let names_regions : NamesAll region_level z.universe (tree_at us v) = rw same_universe gen.named_regions in
    let value : IsValue z.kind (tree_at us v) = record { fits = fit_now; closed = gen.closed; formed = formed } in
    let proper = IsProper-known d x (slot_of us new) (tree_at us v) can refl names names_regions value h.sound h.proper in
    record {
      lawful = rw q (IsLawful-bound us f x z new h now refl within leads (IsSound-known d x (slot_of us new) (tree_at us v) h.sound can) proper);
      set = rw eq (record {
        later = IsLater-trans gen.keeps.later bound_later;
        fewer = fewer;
        continues = all;
        alike = λ j has. AreAlike-for after (tree_at us v) (tree_at ts t) (variable_tree j x) (tree_at ts t) (one j has) refl alike;
        exact = λ n j at_universe has names.
            let own : w.universe ≡ n = some_inj _ _ (sym (universe_of-entry ts e x w at) ∙ at_universe) in
            one j has ∙ exact (rw own names);
        ties = TiesNew-trans c d after known_continues (ties_of_keeps c d h.sound gen.keeps) (TiesNew-same d after longer);
        brings = record { labels = λ P f p i j. let made = gen.labels P f p i in (brings-known d x (slot_of us new) (tree_at us v) there_now refl).labels P f made.0 made.1 tt };
        aliases = λ none a k.
            (let same : closed_aliases (resolved d (tree_at us v)) ≡ closed_aliases (resolved c (tree_at ts t)) =
            aliases_one d (tree_at us v) (tree_at ts t) gen.alike ∙ ap closed_aliases (gen.keeps.trees (tree_at ts t) knows_term) in
            aliases_known d x (slot_of us new) (tree_at us v) h.sound can (same ∙ none) a ∙ ap closed_aliases (gen.keeps.trees a k));
        plain = λ none. record {
          plain = λ a k i.
              (let value : any_label is_alias (resolved d (tree_at us v)) ≡ false = plain_one d (tree_at us v) (tree_at ts t) gen.alike ∙ ap (any_label is_alias) (gen.keeps.trees (tree_at ts t) knows_term) ∙ none in
              plain_known d x (slot_of us new) (tree_at us v) h.sound can value a (ap (any_label is_alias) (gen.keeps.trees a k) ∙ i));
        };
        sound = λ y a.
            let b = Solves-from_known d x (slot_of us new) (tree_at us v) can refl y a in
            let p = gen.sound y b.0 in
            (p.0, b.1 ∙ p.1);
        complete = λ y a e1.
            let own : NamesAll term_level w.universe (y.tree x) = rw (universe_of-entry ts e x w at) at (a.nameable.each x) in
            let ext = gen.complete y a (rw e1 at own) in
            let v_world = ext.world in
            let same_tree : v_world.tree x ≡ inst v_world (tree_at us v) = ext.agrees.trees x less ∙ e1 ∙ sym (inst-agrees c y v_world (tree_at ts t) ext.agrees knows_term) ∙ sym (gen.sound v_world ext.solves).1 in
            record {
              world = v_world;
              agrees = ext.agrees;
              solves = Solves-known d x (slot_of us new) (tree_at us v) can refl v_world ext.solves same_tree;
              names = λ f k n.
                  (let own_names : NamesAll f w.universe (y.tree x) = rw (universe_of-entry ts e x w at) at (k.each x) in
                  let named = IsNameable-set d x (slot_of us new) can.binds refl f v_world (ext.names f k (rw e1 at own_names)) in
                  record { each = named.each });
            };
      });
    }

-- another variable, as a tree of the store
pub taken_open : (us : List Tree) (e : Entries) (y : ℕ) (k : VariableKind) (t : NodeId) (w : Variable) (b : IsBindable e y) → slice_get e.variables y ≡ Some w → k ≡ w.kind → tree_at us t ≡ variable_tree k y → IsOpen us e (tree_at us t) y
taken_open us e y k t w b at same is =
    let own : b.of_kind ≡ w.kind = some_inj _ _ (sym (free_slot us e y b.of_kind b.free).kind ∙ kind_at-entry us e y w at) in
    let tree : tree_at us t ≡ variable_tree b.of_kind y = is ∙ ap (λ j. variable_tree j y) (same ∙ sym own) in
    rw tree (record {
      bindable = b;
      infer = (y, infer_number_some b.of_kind y b.no_region);
      like = refl;
      rank = omega arith;
      same = refl;
      worlds = λ v z. refl;
    })

takes_lower : (j k : VariableKind) → TakesVariable j k → (rank_of_kind k < rank_of_kind j) × (sort_of_variable k ≡ sort_of_variable j)
takes_lower kind.Ty kind.Int h = (omega arith, refl)
takes_lower kind.Ty kind.Float h = (omega arith, refl)
takes_lower kind.Ty kind.Ty h = absurd h
takes_lower kind.Ty kind.Const h = absurd h
takes_lower kind.Ty kind.Region h = absurd h
takes_lower kind.Int k h = absurd h
takes_lower kind.Float k h = absurd h
takes_lower kind.Const k h = absurd h
takes_lower kind.Region k h = absurd h

takes_fits : (j k : VariableKind) (t : Tree) → TakesVariable j k → kind_of t ≡ Some (of_sort (sort_of_variable j)) → Fits j t
takes_fits kind.Ty k t h e = e
takes_fits kind.Int k t h e = absurd h
takes_fits kind.Float k t h e = absurd h
takes_fits kind.Const k t h e = absurd h
takes_fits kind.Region k t h e = absurd h

pub can_take : (e : Entries) (x y : ℕ) (v w : Variable) → IsBindable e x → IsBindable e y → slice_get e.variables x ≡ Some v → slice_get e.variables y ≡ Some w → TakesVariable v.kind w.kind → CanTake e x y
can_take e x y v w a b p q h =
    let first = kind_read e x a.of_kind v a.free p in
    let second = kind_read e y b.of_kind w b.free q in
    record { first = a; second = b; takes = rw (first, second) at h }

-- a type variable got another variable as its value
pub taken : (ts us vs : List Tree) (e f g : Entries) (x y : ℕ) (k : VariableKind) (t v : NodeId) (w z u : Variable) → IsLawful ts e → Extends ts us → CanTake e x y → slice_get e.variables x ≡ Some w → slice_get e.variables y ≡ Some u → k ≡ u.kind → tree_at us t ≡ variable_tree k y → IsLawful vs f → IsIn vs v → IsFormed (tree_at vs v) → Generalized (content_of us e) (content_of vs f) x w.universe 0 (tree_at us t) (tree_at vs v) → slice_get f.variables x ≡ Some z → g ≡ bound f x (record z { state = Known v }) → IsLawful vs g × AreMadeOne (content_of ts e) (content_of vs g) x y
taken ts us vs e f g x y k t v w z u lawful ext can at_x at_y same is h within formed gen now q =
    let wk = kind_read e x can.first.of_kind w can.first.free at_x in
    let uk = kind_read e y can.second.of_kind u can.second.free at_y in
    let takes : TakesVariable w.kind u.kind = rw (wk, uk) can.takes in
    let low = takes_lower w.kind u.kind takes in
    let tree : tree_at us t ≡ variable_tree u.kind y = is ∙ ap (λ j. variable_tree j y) same in
    let rank : variable_rank (tree_at us t) ≡ rank_of_kind u.kind = ap variable_rank tree in
    let lower : variable_rank (tree_at vs v) < rank_of_kind w.kind = omega (arith, gen.rank, rank, low.0) in
    let sort : kind_of (tree_at vs v) ≡ Some (of_sort (sort_of_variable w.kind)) = kind_of-like (tree_at vs v) (tree_at us t) gen.like ∙ ap kind_of tree ∙ ap (λ s. Some (of_sort s)) low.1 in
    let fit = takes_fits w.kind u.kind (tree_at vs v) takes sort in
    let has : kind_at (content_of us e) y ≡ Some u.kind = kind_at-entry us e y u at_y in
    let knows : Knows (content_of us e) (tree_at us t) = rw tree ((has, tt, refl), tt, tt) in
    let free = (free_slot us e y can.second.of_kind can.second.free).state in
    let no_region : u.kind ≢ kind.Region = λ r. can.second.no_region (sym uk ∙ r) in
    let own : resolved (content_of us e) (variable_tree u.kind y) ≡ variable_tree u.kind y = resolved-variable_unset (content_of us e) (label.Leaf (leaf.Variable u.kind y)) empty y (IsLawful-extended ext lawful).sound (infer_number_some u.kind y no_region) free in
    let names : NamesAll region_level w.universe (resolved (content_of us e) (variable_tree u.kind y)) = rw own (tt, tt) in
    let value = bind_value us vs e f g x t v w z (IsLawful-extended ext lawful) can.first at_x knows h within formed gen lower fit now q in
    let set : IsSet (content_of us e) (content_of vs g) x (variable_tree u.kind y) = subst (λ (s : Tree). IsSet (content_of us e) (content_of vs g) x s) tree value.set in
    let none : closed_aliases (resolved (content_of us e) (variable_tree u.kind y)) ≡ 0 =
    unset_none (content_of us e) u.kind y (IsLawful-extended ext lawful).sound (infer_number_some u.kind y no_region) free in
    let plain = unset_plain (content_of us e) u.kind y (IsLawful-extended ext lawful).sound (infer_number_some u.kind y no_region) free in
    (value.lawful, subst (λ (c : Content). AreMadeOne c (content_of vs g) x y) (content_of-extended ext lawful) (set_one u.kind w.universe has (universe_of-entry us e x w at_x) names none plain set))
