-- The laws of a turn, of a closing and of rows by lines, which the crates above cite too, and of n boards on one cable.
pub mod TurnByLines
pub mod OneEquation
pub mod ClosingByLines
pub mod RowsSent
pub mod LineFacts
pub mod FreshLines
pub mod HoldLaws
pub mod TableOf
pub mod ExchangeLine
pub mod CallsOnCable
pub mod RunByCalls
