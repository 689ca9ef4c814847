-- What the policy of a job says to a call, and what then becomes of the call.
pub mod Plain
pub mod Policies
pub mod Verdicts
pub mod Denials
pub mod Examining
pub mod Denying
pub mod Faultless
pub mod Freedom
pub mod Policing
pub mod PolicedSteps
