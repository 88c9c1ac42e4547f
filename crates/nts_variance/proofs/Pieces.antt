-- Parts that are made values of their own: related invariantly, consts, or without anything that may vary.
use Rattle.std.proofs.Common.{◌≡◌, ⊎_elim, ℕ, ◌≤◌, Bool, false, List, [], ◌∷◌, ◌++◌, map, Some, refl, sym, ap, ◌∙◌, arith, subst}
use Rattle.nts_model.specs.declared.labels.Sort.{Sort}
use Rattle.nts_model.specs.declared.labels.Sort.TheVariants as sort
use Rattle.nts_model.specs.declared.labels.Variance.{Variance}
use Rattle.nts_model.specs.declared.labels.Variance.TheVariants as variance
use Rattle.nts_model.specs.declared.labels.VariableKind.{VariableKind}
use Rattle.nts_model.specs.declared.labels.VariableKind.TheVariants as kind
use Rattle.nts_model.specs.Terms.Trees.{Tree, size, kind_of, of_sort, any_label, is_alias, is_infer, IsClosedUnder, IsFormed, variable_tree}
use Rattle.nts_model.specs.Tables.Contents.{Content, unset, state_of}
use Rattle.nts_model.specs.Tables.Resolving.{variable_flag, IsInfer, resolved, Knows, IsSound}
use Rattle.nts_model.specs.Tables.Levels.{NamesAll, term_level, region_level}
use Rattle.nts_model.specs.Tables.Worlds.{World, inst, Solves}
use Rattle.nts_model.specs.Tables.Solvable.{IsSolvable}
use Rattle.nts_variance_model.specs.Variances.Judging.{IsSettled, Settles}
use Rattle.nts_variance_model.specs.Variances.Relations.{IsSettledWorld}
use Rattle.nts_variance_model.specs.Variances.Leaving.{Judge, judging_of, Judges}
use Rattle.nts_model.proofs.Tables.Slots.{Knows-kept}
use Rattle.nts_model.proofs.Terms.Scoping.{listed_patched}
use Rattle.nts_model.proofs.Tables.Resolved.{no_rank, rank_none, no_flag, flag_le}
use Rattle.nts_model.proofs.Tables.Instances.{inst-agrees}
use Rattle.nts_model.proofs.Tables.Fitting.{Fits-inst, IsClosed-inst}
use Rattle.nts_model.proofs.Tables.Held.{Continues-refl}
use Rattle.nts_variance_model.proofs.Variances.Alongside.{along_const}
use Rattle.nts_variance_model.proofs.Variances.SettleRows.{settled_one, settled_along, settles_kind}
use Rattle.nts_variance_model.proofs.Variances.Tied.{settled_tied}
use Rattle.nts_store.specs.declared.nodes.NodeId.{NodeId}
use Rattle.nts_store.specs.Growth.{tree_at}
use Rattle.nts_unify.specs.Entries.{Entries}
use Rattle.nts_unify.specs.Reading.{content_of}
use Rattle.nts_unify.proofs.Tied.{ties_of_keeps}
use Rattle.nts_relating.specs.Relating.{Generalized, Blocks}
use Rattle.nts_relating.proofs.Ranks.{kind_of-like}
use Rattle.nts_relating.proofs.GenLemmas.{resolved-no_infer}
use Rattle.nts_variance.specs.declared.along.Relating.{Relating}
use Rattle.nts_variance.specs.declared.vary_walk.Task.{Task}
use Rattle.nts_variance.specs.declared.vary_walk.Task.TheVariants as task
use Rattle.nts_variance.specs.declared.vary_walk.Spot.{Spot}
use Rattle.nts_variance.specs.Steps.{enter, steps_of, stacked, builds, StepsLead, ended}
use Rattle.nts_variance.specs.Walking.{IsMadeFor, MadeIn, NothingOwed, IsChoice, SettlesOwed, IsMade}
use Rattle.nts_variance.specs.Parts.{StandsAlone}
use Rattle.nts_variance.specs.Terms.{pairs_at, step_at}
use Rattle.nts_variance.specs.Varying.{IsWalk, LookRefuses, WalkRefuses, IsVaried}
use Rattle.nts_variance.proofs.Growing.{grown_later}
use Rattle.nts_variance.proofs.Founding.{founds_tied}
use Rattle.nts_variance.proofs.PlainTerms.{keeps_same}
use Rattle.nts_relating.proofs.Plain.{plain_one}
use Rattle.nts_variance.proofs.Clean.{resolved_unset}
use Rattle.nts_variance.proofs.Runs.{stacked-push, unentered}
use Rattle.nts_variance.proofs.Pairs.{ended_at}
use Rattle.nts_variance.proofs.Nodes.{size_run}
use Rattle.nts_variance.proofs.Leaves.{kept_kinds, inst_settled}
use Rattle.nts_variance.proofs.Alone.{alone_alike}
use Rattle.nts_variance.proofs.Likeness.{sides_related}
use Rattle.nts_variance.proofs.Fixed.{fixed_one, fixed_related}
use Rattle.nts_variance.proofs.VaryTurns.{builds_steps, task_last, own_refuses}

module _ (declared : ℕ → List Variance) (z : Bool) (u : ℕ) where
  -- what settles with the instance of a part that stands as it is, is that instance
  one_instance : (j : Judge declared) (c : Content) (w : World) (v : Variance) (t s : Tree) → Solves c w → Judges declared j w → IsSettledWorld (judging_of declared j) c w → Knows c t → any_label is_alias t ≡ false → StandsAlone v t
      → IsSettled (judging_of declared j) s → Settles (judging_of declared j) v s (inst w t) → s ≡ inst w t
  one_instance j c w v t s solves judges settled knows plain alone own x =
      let J = judging_of declared j in
      let here = inst_settled J c w t settled knows plain in
      ⊎_elim
      (λ either. ⊎_elim
      (λ (e : v ≡ variance.Invariant). settled_one J j.lawful s (inst w t) own here (subst (λ p. Settles J p s (inst w t)) e x))
      (λ (e : kind_of t ≡ Some (of_sort sort.Const)).
      let right : kind_of (inst w t) ≡ Some (of_sort sort.Const) = Fits-inst c w kind.Const t solves.fitting knows e in
      along_const J j.lawful (settles_kind J j.lawful v s (inst w t) x ∙ right) (settled_along J j.lawful v s (inst w t) own here x)) either)
      (λ fixed. fixed_one declared j w judges v s t fixed own here x) alone

  -- a value made for a part: nothing is owed, since each that settles with the part's instance is that instance
  pub made_piece : (c d : Content) (x b : ℕ) (v : Variance) (q : Bool) (t r : Tree) (s : Sort) → IsSound c → IsSound d → IsSolvable d → Knows c t → IsFormed t → kind_of t ≡ Some (of_sort s) → any_label is_alias t ≡ false → (q ≡ false → any_label is_alias (resolved c t) ≡ false) → StandsAlone v t
      → Generalized c d x u b t r → NamesAll region_level u (resolved d r) → IsMade declared z u c d v q t r []
  made_piece c d x b v q t r sort_of sound sound_later solvable knows formed sorted plain plain_values alone gen clean =
      let keeps = gen.keeps in
      record {
        later = grown_later keeps.later;
        continues = gen.continues;
        trees = keeps.trees;
        clean = clean;
        made = λ f s k. record {
          knows = Knows-kept d f r (kept_kinds d f k) gen.knows;
          kind = kind_of-like r t gen.like;
          listed = λ ss e h. listed_patched ss e t r gen.patched h;
          apart = λ no loose. rank_none r (omega (arith, gen.rank, no_rank t no));
          alone = λ no loose. alone_alike d r t (rank_none r (omega (arith, gen.rank, no_rank t no))) no (kind_of-like r t gen.like) gen.alike;
        };
        stands = λ f s k ks a loud.
            (let now : Knows d t = Knows-kept c d t (kept_kinds c d gen.continues) knows in
            let values : any_label is_alias (resolved d t) ≡ false = ap (any_label is_alias) (keeps.trees t knows) ∙ plain_values loud in
            ⊎_elim
            (λ either. sides_related declared d f ks sound_later s k solvable z v r t gen.knows now gen.alike values formed sort_of sorted either)
            (λ fixed. fixed_related declared f ks c d x u b z v t r fixed gen k now) alone);
        goals = tt;
        back = λ w h. (gen.sound w h).0;
        complete = λ j w h judged settled s own names form y.
            (let J = judging_of declared j in
            let same : s ≡ inst w t = one_instance j c w v t s h judged settled knows plain alone own y in
            let e = gen.complete w h (subst (NamesAll term_level u) same names) in
            let old = e.agrees in
            let before : IsSettledWorld J c e.world = record { each = λ n l. subst (IsSettled J) (sym (old.trees n l)) (settled.each n l) } in
            record {
              extension = record {
                world = e.world;
                agrees = e.agrees;
                solves = e.solves;
                settled = settled_tied J j.lawful c d e.world sound_later e.solves (ties_of_keeps c d sound_later keeps) before;
                names = λ f k n. e.names f k (subst (NamesAll f u) same n);
              };
              is = (gen.sound e.world e.solves).1 ∙ inst-agrees c w e.world t e.agrees knows ∙ sym same;
              goals = tt;
            });
        plain = λ h. (
          record { keeps = keeps_same c d keeps.trees; founds = founds_tied c d (let l = keeps.later in l.kinds) (ties_of_keeps c d sound_later keeps) },
          plain_one d r t gen.alike ∙ ap (any_label is_alias) (keeps.trees t knows) ∙ h,
        );
        passes = λ P p h k. (let x = gen.labels P (p.variables) h k in (x.0, x.1, tt));
      }

-- a part without variables has no values, and neither has a variable that leads to one without a value
pub plain_alone : (c : Content) (t : Tree) → any_label is_infer t ≡ false → any_label is_alias t ≡ false → any_label is_alias (resolved c t) ≡ false
plain_alone c t none plain = ap (any_label is_alias) (resolved-no_infer c t none) ∙ plain

pub plain_unset : (c : Content) (t : Tree) (k : VariableKind) (n : ℕ) → IsSound c → resolved c t ≡ resolved c (variable_tree k n) → state_of c n ≡ Some unset → any_label is_alias (resolved c t) ≡ false
plain_unset c t k n sound same free = ap (any_label is_alias) (same ∙ resolved_unset c k n sound free)

module _ (declared : ℕ → List Variance) (z : Bool) (u x : ℕ) where
  -- no choice goes on by a part that stands as it is, of which no instance is in the variable's own tree
  alone_refuses : (ts : List Tree) (e : Entries) (xs : List Task) (s : Spot) (ms : List NodeId) (gs : List Relating) → IsWalk ts e u x (xs ++ task.Enter s ∷ []) ms gs → StandsAlone s.variance (tree_at ts s.term) → any_label is_alias (tree_at ts s.term) ≡ false
      → Blocks (content_of ts e) x u s.binders (tree_at ts s.term) → WalkRefuses declared u x (content_of ts e) (stacked (step_at ts) (xs ++ task.Enter s ∷ [])) (stacked (tree_at ts) ms) (pairs_at ts gs)
  alone_refuses ts e xs s ms gs walk alone plain blocks =
      let c = content_of ts e in
      let t = tree_at ts s.term in
      let part = task_last declared z u x ts e xs (task.Enter s) ms gs walk in
      let rest = stacked (step_at ts) xs in
      let here = stacked-push (step_at ts) xs (task.Enter s) in
      let inside = rw here at walk.inside in
      let room : variable_flag t ≤ builds rest = ⊎_elim (λ (no : IsInfer t → ⊥). omega (arith, no_flag t no)) (λ (n : 1 ≤ builds rest). omega (arith, flag_le t, n)) inside.0 in
      record {
        none = λ j w solves judges settled goals names runs.
            (let J = judging_of declared j in
            let whole = w.tree x in
            let g = inst w in
            let P = IsChoice J u whole in
            let Q = SettlesOwed J in
            let there : StepsLead P Q (enter s.variance s.is_quiet (g t) ∷ steps_of g rest) (map g (stacked (tree_at ts) ms)) whole = subst (λ ys. StepsLead P Q (steps_of g ys) (map g (stacked (tree_at ts) ms)) whole) here runs in
            let a = unentered P Q s.variance s.is_quiet (g t) (steps_of g rest) (map g (stacked (tree_at ts) ms)) whole there in
            let choice = a.fits in
            let same : a.made ≡ g t = one_instance declared z u j c w s.variance t a.made solves judges settled part.knows plain alone choice.settled choice.settles in
            let named : NamesAll term_level u (g t) = subst (NamesAll term_level u) same (choice.named term_level names) in
            let below : IsClosedUnder s.binders (g t) = IsClosed-inst c w s.binders t solves.fitting part.knows part.closed in
            let blocked = blocks.none w solves named below in
            absurd (omega (arith, size_run a.runs, builds_steps g rest, room, ap size same, blocked)));
      }

  -- no choice goes on where a look refuses
  pub look_refuses : (ts : List Tree) (e : Entries) (xs : List Task) (s : Spot) (ms : List NodeId) (gs : List Relating) → IsWalk ts e u x (xs ++ task.Enter s ∷ []) ms gs → LookRefuses (content_of ts e) x u s (tree_at ts s.term)
      → WalkRefuses declared u x (content_of ts e) (stacked (step_at ts) (xs ++ task.Enter s ∷ [])) (stacked (tree_at ts) ms) (pairs_at ts gs)
  look_refuses ts e xs s ms gs walk refuses = ⊎_elim
      (λ own. own_refuses declared z u x ts e xs s ms gs walk own)
      (λ piece. alone_refuses ts e xs s ms gs walk piece.0 piece.1 piece.2) refuses

-- what was made for the whole
pub varied_fits : (declared : ℕ → List Variance) (z : Bool) (u x : ℕ) (ts us : List Tree) (e f : Entries) (v : Variance) (t r : NodeId) (gs : List Relating) → IsVaried declared z u x ts us e f v t r gs → IsMadeFor (content_of us f) (tree_at ts t) (tree_at us r)
varied_fits declared z u x ts us e f v t r gs h =
    let d = content_of us f in
    let sound = h.lawful.sound in
    let walks = h.walks in
    let runs = walks.made d sound (Continues-refl d sound) (tree_at us r) ended in
    let a = unentered (MadeIn d) NothingOwed v false (tree_at ts t) [] [] (tree_at us r) runs in
    subst (IsMadeFor d (tree_at ts t)) (ended_at a.made refl refl a.runs) a.fits
