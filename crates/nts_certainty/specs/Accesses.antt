-- When a goal is asked again, as proofs know it.
use Rattle.nts_terms.specs.nts_model.specs.Derivations.Handlers.{Access, never, always, any_infer, in_storage, in_storage_or_infer}
use Rattle.nts_terms.specs.Modes.{numbers_of}
use Rattle.nts_certainty.specs.declared.reruns.RerunCondition.{RerunCondition}
use Rattle.nts_certainty.specs.declared.reruns.RerunCondition.TheVariants as rerun_data

-- when a goal is asked again
abbrev pub access_of : RerunCondition → Access
access_of rerun_data.Never = never
access_of (rerun_data.OpaqueInStorage ids) = in_storage (numbers_of ids.items)
access_of rerun_data.AnyOpaqueHasInferAsHidden = any_infer
access_of (rerun_data.OpaqueInStorageOrAnyOpaqueHasInferAsHidden ids) = in_storage_or_infer (numbers_of ids.items)
access_of rerun_data.Always = always
