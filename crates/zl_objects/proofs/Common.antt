-- The names that most proofs of this crate cite, passed on from one place. Declares nothing.
pub use Rattle.std.proofs.Common.{is_ok, leb, length, suc, vec_capacity, vec_len, zero, ◌≤◌}
pub use Rattle.zl_rights.proofs.Common.{All, Bool, ChannelEnd, Created, Err, IfSome, IsTrue, Koids, List, Map, None, Ok, OnOk, Option, Process, Ready, Result}
pub use Rattle.zl_rights.proofs.Common.{Settles, Some, World, [], and_from, and_parts, ap, append-nil, append_assoc, arith, at_drop_all, at_drop_more}
pub use Rattle.zl_rights.proofs.Common.{below_all, bit_and, cases_Bool, cases_lt, cond, count_by, drop, eq-eqb, eqb-true, false, false≢true, filter, find}
pub use Rattle.zl_rights.proofs.Common.{get_or, get_or-map, has_key, if◌then◌else◌, inl, inr, is_empty, is_some, is_sorted, length-append, length-map, list_any}
pub use Rattle.zl_rights.proofs.Common.{lives, lt-ltb, map, map-append, nat_cmp, nat_le, nat_lt, nat_tests, ne_eqb, none-some, not, option_map, or_left}
pub use Rattle.zl_rights.proofs.Common.{or_right, position, refl, rules, runs, same_Some, slice_get, subst, sum_by, sum_by-cons, sym, take, take_all, take_more}
pub use Rattle.zl_rights.proofs.Common.{true, true≢false, ℕ, ◌&&◌, ◌++◌, ◌+◌, ◌-◌, ◌<◌, ◌==◌, ◌^◌, ◌||◌, ◌∙◌, ◌∷◌, ◌≡◌, ◌≢◌, ◌⊎◌}
unfoldable pub use Rattle.zl_rights.proofs.Common.{each, get, in_queue, in_table, is_held, is_process, put, update, without}
pub use Rattle.std.proofs.lemmas.Bool.{leb-false, leb-true, ltb-false, ltb-true, or_cases, or_parts}
pub use Rattle.std.proofs.lemmas.Iterator.Consumers.{YieldsList-from_filter, YieldsList-from_rest, nth_from_yields_List}
pub use Rattle.std.proofs.lemmas.Iterator.Search.{any_from_yields_List}
pub use Rattle.std.proofs.lemmas.List.Concat.{flat_map-cons}
pub use Rattle.std.proofs.lemmas.List.Elements.{All-append, All-cons, All-drop, All-filter, All-head, All-map, All-more, All-nil, All-push, All-same, All-tail}
pub use Rattle.std.proofs.lemmas.List.Elements.{All-take, All-weaker, Contains-append_cases, Contains-append_left, Contains-append_right, filter-append}
pub use Rattle.std.proofs.lemmas.List.Elements.{filter_passes}
pub use Rattle.std.proofs.lemmas.List.Folds.{list_any-append, list_any_none}
pub use Rattle.std.proofs.lemmas.List.Sums.{count_by-le-length, sum_by-append}
pub use Rattle.std.proofs.lemmas.Map.Views.{any-filter_same}
pub use Rattle.std.specs.BTreeMap.{BTreeMap, IsUpperBound, insert_entry, is_at, keys}
pub use Rattle.std.specs.BTreeMap.Range.{IsInRange, IsRangeOf, range_contains}
pub use Rattle.std.specs.BTreeSet.{BTreeSet, IsKeyRangeOf, Updates, contains}
pub use Rattle.std.specs.Cmp.{unsigned_tied}
pub use Rattle.std.specs.List.{AllByRecursion, Contains, insert, position_or_len, remove}
pub use Rattle.std.specs.List.Sorted.{IsBinarySearchResult, IsNonDecreasingBy, IsPartitionedBy, IsPermutation, IsSearchInRange}
unfoldable pub use Rattle.std.specs.List.Sorted.{IsStrictlySortedBy}
pub use Rattle.std.specs.Map.{keys_of, lookup, remove_entry, set_value}
pub use Rattle.std.specs.Option.{IfNone, option_to_list}
pub use Rattle.std.specs.Ordering.{is_gt, is_lt, ordering_index}
pub use Rattle.std.specs.Prelude.{IsSome, OnErr, bit_or, is_err, max, min, ◌↔◌}
pub use Rattle.zl_objects.specs.Awaited.{koid_of}
pub use Rattle.zl_objects.specs.Below.{HasBelow, HasTask, IsListedNext, IsNextListed, is_one_of, killed_among, looked_at}
pub use Rattle.zl_objects.specs.Calm.{IsAtRest, IsCalm, KeepsCalm, NoneHolds, StayStill, has_packet, holds_now, is_due, is_given, is_marked}
pub use Rattle.zl_objects.specs.Calm.{is_watched, is_watched_in, slept}
pub use Rattle.zl_objects.specs.Due.{earlier, earliest_from, is_entry_due, order_at}
pub use Rattle.zl_objects.specs.Dying.{HasPeerHere, IsKept, IsPeerHere, IsWhole, LetsGo, Thins, is_last, is_named, is_unkept, left_at, unkept_at}
unfoldable pub use Rattle.zl_objects.specs.Dying.{budget}
pub use Rattle.zl_objects.specs.Index.{ArePaired, IsBuried, IsIndexed, KeepPairs, ListsChild, NoMoreLive, OthersStayListed, StayListed, above_of, has_pair}
pub use Rattle.zl_objects.specs.Index.{is_under, lists, lists_living, pair_cmp, passes_in}
pub use Rattle.zl_objects.specs.Jobs.{is_below, is_job_below_here, is_process_below, is_within_here, killed, killed_body, killed_if, killing, parent_at}
pub use Rattle.zl_objects.specs.Jobs.{parent_found, parent_held, with_policy_body, with_policy_set}
unfoldable pub use Rattle.zl_objects.specs.Jobs.{all_killed, descendants, has_job_below, has_process_below, is_below_by}
pub use Rattle.zl_objects.specs.Listed.{AreListed, entry_of, is_entry_there, is_there, listed_at, listed_value, order_entry, watch_of}
pub use Rattle.zl_objects.specs.Objects.{Objects, end_to, held_once_less, held_once_more, if_there, is_alive, is_channel_at, is_channel_body, is_channel_in}
pub use Rattle.zl_objects.specs.Objects.{is_child, is_end_at, is_end_body, is_job_at, is_job_here, is_job_in, is_kept, is_koid, job_in, job_of, keeper_of}
pub use Rattle.zl_objects.specs.Objects.{kind_here, kind_in, kind_of_pair, new_object, peer_found, peer_here, peer_of, queue_held, raised_changed, reader_at}
pub use Rattle.zl_objects.specs.Objects.{reader_in, reader_of, received, received_body, sent, sent_body, started, started_body, started_life, stays_alone}
pub use Rattle.zl_objects.specs.Objects.{stopped, stopped_body, stopping}
unfoldable pub use Rattle.zl_objects.specs.Objects.{has_living_child_here}
pub use Rattle.zl_objects.specs.PortWaits.{AreFound, AreOwn, IsEarliest, IsFirst, finds, is_entry_at, is_entry_to, is_pair, is_pair_of}
pub use Rattle.zl_objects.specs.PortWaits.{without_ended, without_given, without_own}
pub use Rattle.zl_objects.specs.Ports.{at_port, changed_port, has_place_in, is_port_at, is_port_in, packets_of, reserved_in, reserved_of, unreserved}
pub use Rattle.zl_objects.specs.Release.{AreKeptBut, Cascades, Releases, all_koids, goes, koids_in, let_go, named_in, none_left, waits_end}
pub use Rattle.zl_objects.specs.Seen.{Agrees, IsExact, LeavesLargest, body_value, is_above, is_in_job, object_entry, object_value, with_all, with_objects}
pub use Rattle.zl_objects.specs.Signals.{AreActive, ShowStates, Shows, implied_here, signals_at, signals_in}
pub use Rattle.zl_objects.specs.Sleepers.{IsFirstDue, IsListed, IsPlace, IsPut, IsUnlisted, ListsLast, NoneDueAt, TakesDue, is_for, listed_for}
pub use Rattle.zl_objects.specs.Waits.{AreSameButWaits, HavePlaces, HavePlacesWith, HaveSameWaits, KeepsWaits, bare, ending_port, ending_waits, ends_waits}
pub use Rattle.zl_objects.specs.Waits.{giving_back, one_for, order_found, unwatched, waits_at, waits_for, waits_in, watched, without_port_waits}
pub use Rattle.zl_objects.specs.Walks.{IsLeastFrom, IsNext}
pub use Rattle.zl_objects.specs.declared.awaited.Awaited.{Awaited}
pub use Rattle.zl_objects.specs.declared.awaited.Sleeper.{Sleeper}
pub use Rattle.zl_objects.specs.declared.children.Children.{Children}
pub use Rattle.zl_objects.specs.declared.object.Body.{Body}
pub use Rattle.zl_objects.specs.declared.object.Object.{Object}
pub use Rattle.zl_objects.specs.declared.object.Pair.{Pair}
pub use Rattle.zl_objects.specs.declared.wait.Listed.{Listed}
pub use Rattle.zl_objects.specs.declared.wait.Wait.{Wait}
pub use Rattle.zl_port.specs.Packets.{Port, is_from, user_packet, with_packet, with_place, without_front, without_packets, without_place}
pub use Rattle.zl_rights.proofs.MapLaws.{get-each, get-put, get-update}
pub use Rattle.zl_rights.proofs.Settling.{is_held-larger, list_any-weaker}
pub use Rattle.zl_rights.specs.Numbers.{NO_JOBS, NO_PROCESSES, PEER_CLOSED, READABLE, TERMINATED, WRITABLE, meets}
pub use Rattle.zl_rights.specs.Signals.{is_process_of, signal_if}
unfoldable pub use Rattle.zl_rights.specs.Signals.{active, has_child_job, has_child_process}
pub use Rattle.zl_rights.specs.World.{Message, Packet}
pub use Rattle.zl_rights.specs.declared.entry.Entry.{Entry}
pub use Rattle.zl_rights.specs.declared.kind.Kind.{Kind}
pub use Rattle.zl_rights.specs.declared.policy.Condition.{Condition}
pub use Rattle.zl_signals.specs.Waits.{SignalState, is_at_port, is_by_handle_here, is_keyed_here, wait_at, watch_holds, without_first}
pub use Rattle.zl_signals.specs.declared.watch.Watch.{Watch}
pub use Rattle.zl_rights.proofs.MapEdits.{below_parts, get-without, has_key-update, is_sorted-update, length-update, length-without, put_key, sorted_parts}
pub use Rattle.zl_rights.proofs.MapEdits.{sorted_put, sorted_without, update_missing, without_lower}
