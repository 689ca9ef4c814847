-- Lists that have something at some of their places. Declares nothing.
pub use Rattle.zl_code.specs.Lists.{within, at}
