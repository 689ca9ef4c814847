-- The names that definitions above this crate cite, passed on from one place. Declares nothing.
pub use Rattle.zl_interp.specs.Cpu.{started_cpu, register_set, handle_register}
pub use Rattle.zl_interp.specs.Program.{program_value}
pub use Rattle.zl_interp.specs.Next.{call_here, IsStuckOrCalls, StandsNext}
