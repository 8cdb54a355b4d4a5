mod Asked
mod Deeds
mod Ended
mod Found
mod Knowing
mod Standing
mod Values
