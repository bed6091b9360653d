pub mod TextTokens
