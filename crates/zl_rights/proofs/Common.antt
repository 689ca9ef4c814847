-- The names that most proofs cite, passed on from one place. Declares nothing.
pub use Rattle.zl_rights.specs.Common.{Blocked, Body, ChannelEnd, Cpu, Created, DUPLICATE, Ended, EventBody, Gone, JobBody, Koids, Map, Object, PairEnd}
pub use Rattle.zl_rights.specs.Common.{PortBody}
pub use Rattle.zl_rights.specs.Common.{Process, ProcessBody, Ready, SIGNAL, SIGNALED, STUCK, Settles, State, World, bits, condition_name, condition_number}
pub use Rattle.zl_rights.specs.Common.{default_rights_of, has_key, is_empty, is_ready, kind_of, lives, narrowed, process_settled, queue_of, rights_of, runs}
pub use Rattle.zl_rights.specs.Common.{state_passes, within}
unfoldable pub use Rattle.zl_rights.specs.Common.{answered, each, fired, get, has_living_child, in_queue, in_table, is_held, is_process, put, update, wakes}
unfoldable pub use Rattle.zl_rights.specs.Common.{where_key, without, without_others}
pub use Rattle.std.proofs.Common.{ap, append-nil, append_assoc, arith, cond, decimal, eq-eqb, eqb, inl, inr, leb, length-append, ltb, refl, rules, set, subst}
pub use Rattle.std.proofs.Common.{sym, take-append-drop, true≢false, ◌∙◌}
pub use Rattle.std.proofs.lemmas.Bool.{and_from, and_parts, cases_Bool, cases_lt, eqb-true, false≢true, le-leb, leb-true, lt-ltb, ltb-true, ne_eqb, or_left}
pub use Rattle.std.proofs.lemmas.Bool.{or_right}
pub use Rattle.std.proofs.lemmas.Bool.Decides.{nat_tests}
pub use Rattle.std.proofs.lemmas.Grind.{flat_map-append}
pub use Rattle.std.proofs.lemmas.List.{at_drop_all, at_drop_more, drop_at, get_or-drop, get_or-map, length-drop, length-map, length-take, length-take-le}
pub use Rattle.std.proofs.lemmas.List.{map-append, take_all, take_at, take_more}
pub use Rattle.std.proofs.lemmas.List.Elements.{All-nil}
pub use Rattle.std.proofs.lemmas.List.Folds.{list_all-append}
pub use Rattle.std.proofs.lemmas.List.Sums.{sum_by-cons}
pub use Rattle.std.proofs.lemmas.Option.{none-some, same_Some, slice_get-get_or}
pub use Rattle.std.proofs.lemmas.Result.{err_from_is_err_and}
pub use Rattle.std.specs.Bool.{then_some}
pub use Rattle.std.specs.FinMap.Entries.{below_all, is_sorted}
pub use Rattle.std.specs.List.{All, count_by, find, flat_map, list_all, list_any, position, starts_with, sum_by}
pub use Rattle.std.specs.Option.{option_map, option_or}
pub use Rattle.std.specs.Ordering.{nat_cmp}
pub use Rattle.std.specs.Prelude.{Bool, Err, IfErr, IfNone, IfOk, IfSome, IsSome, IsTrue, List, None, Ok, OnOk, Option, Result, Some, [], bit_and, codes, drop}
pub use Rattle.std.specs.Prelude.{false, filter, fold, get_or, if◌then◌else◌, is_some, length, map, nat_le, nat_lt, not, pos, replicate, slice_get, slice_index}
pub use Rattle.std.specs.Prelude.{slice_set, string_bytes, suc, take, true, zero, ℕ, ℤ, ⊤, ◌%◌, ◌&&◌, ◌*◌, ◌++◌, ◌+◌, ◌-◌, ◌/◌, ◌<◌, ◌==◌, ◌^◌, ◌||◌, ◌∷◌, ◌≡◌}
pub use Rattle.std.specs.Prelude.{◌≢◌, ◌≤◌, ◌⊎◌}
