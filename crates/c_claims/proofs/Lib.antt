mod NoPurge
