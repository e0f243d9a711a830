mod Agreeing
mod Plain
mod Seeking
mod Settled
