mod Units
mod Trees
mod LeftOut
