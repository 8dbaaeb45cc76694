mod Deeds
mod Worlds
mod Completing
mod Whole
