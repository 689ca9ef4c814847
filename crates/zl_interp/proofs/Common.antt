-- The names that most proofs of this crate cite, passed on from one place. Declares nothing.
pub use Rattle.std.proofs.Common.{add-one, rules}
pub use Rattle.zl_code.proofs.Common.{Bool, Cpu, IfNone, IfSome, Image, IsSome, IsStuck, IsTrue, List, Moves, None, Option, Site, Some, [], and_parts, ap}
pub use Rattle.zl_code.proofs.Common.{arith, call_row, calls_at, false, false≢true, get_or, if◌then◌else◌, inl, inr, instr_bytes, is_in_range}
pub use Rattle.zl_code.proofs.Common.{is_instr_in_range, is_some, length, list_all, map, nat_lt, none-some, option_map, refl, replicate, same_Some, slice_get}
pub use Rattle.zl_code.proofs.Common.{slice_set, subst, suc, sym, take, true, zero, ℕ, ◌++◌, ◌+◌, ◌<◌, ◌∙◌, ◌∷◌, ◌≡◌, ◌≢◌, ◌≤◌, ◌⊎◌}
unfoldable pub use Rattle.zl_code.proofs.Common.{local_effect, next_at, site_of}
pub use Rattle.std.proofs.lemmas.Grind.{common_steps}
pub use Rattle.std.proofs.lemmas.List.{get_or-map, length-set, map-append, with_items_is}
pub use Rattle.std.specs.Arc.{arc_value}
pub use Rattle.std.specs.Prelude.{drop, slice_index, ◌↔◌}
pub use Rattle.zl_code.specs.Asked.{has_its_memory, used}
pub use Rattle.zl_code.specs.Local.{goes_to}
pub use Rattle.zl_code.specs.Steps.{moves, next_of}
pub use Rattle.zl_code.specs.declared.instr.Instr.{Instr}
pub use Rattle.zl_interp.specs.Bursts.{Agrees, CanStand, Done, HasBytes, IsBurst, Leads, after_locals, is_filled, marked, moved_to, stop_at, then_moved}
pub use Rattle.zl_interp.specs.Program.{program_value}
pub use Rattle.zl_verify.specs.Covered.{IsAble, IsVerified}
