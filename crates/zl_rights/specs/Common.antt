-- The names that most definitions cite, passed on from one place. Declares nothing.
pub use Rattle.zl_rights.specs.Map.{Map, has_key}
unfoldable pub use Rattle.zl_rights.specs.Map.{each, get, put, update, where_key, without}
pub use Rattle.zl_rights.specs.Names.{condition_name}
pub use Rattle.zl_rights.specs.Numbers.{DUPLICATE, SIGNAL, SIGNALED, STUCK, bits, condition_number, default_rights_of, narrowed, rights_of, within}
pub use Rattle.zl_rights.specs.Settle.{Koids, Settles, process_settled, queue_of}
unfoldable pub use Rattle.zl_rights.specs.Settle.{has_living_child, in_queue, in_table, is_held, without_others}
pub use Rattle.zl_rights.specs.Signals.{is_empty, is_ready, lives, runs, state_passes}
unfoldable pub use Rattle.zl_rights.specs.Signals.{is_process}
unfoldable pub use Rattle.zl_rights.specs.Wakes.{fired, wakes}
pub use Rattle.zl_rights.specs.World.{Blocked, Body, ChannelEnd, Cpu, Created, Ended, EventBody, Gone, JobBody, Object, PairEnd, PortBody, Process, ProcessBody, Ready, State, World, kind_of}
unfoldable pub use Rattle.zl_rights.specs.World.{answered}
