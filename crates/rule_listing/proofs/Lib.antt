pub mod AskedAlike
